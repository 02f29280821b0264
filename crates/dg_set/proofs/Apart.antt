-- How a walk over two sets finds whether they share an element.
use Rattle.std.proofs.Common.{◌≡◌, Bool, true, false, ◌&&◌, List, [], ◌∷◌, sym, ap, ◌∙◌}
use Rattle.std.proofs.lemmas.Bool.{true≢false}
use Rattle.dg_graph.specs.declared.element.Element.{Element}
use Rattle.dg_graph.specs.Elements.{has}
use Rattle.dg_graph.specs.Sets.{met}
use Rattle.dg_graph.proofs.Sets.{has-met, has_first}
use Rattle.dg_set.specs.Apart.{AreApart}

not_both : (a b : Bool) → (a && b) ≡ false → a ≡ true → b ≡ false
not_both true b e h = e
not_both false b e h = cc

left_of_both : (a b : Bool) → (a && b) ≡ true → a ≡ true
left_of_both true b e = cc
left_of_both false b e = e

right_of_both : (a b : Bool) → (a && b) ≡ true → b ≡ true
right_of_both true b e = e
right_of_both false b e = cc

-- sets that meet in nothing are apart
pub apart_from_met : (a b : List Element) → [] ≡ met a b → AreApart a b
apart_from_met a b e x h =
    not_both (has a x) (has b x) (sym (has-met a b x) ∙ ap (λ s. has s x) (sym e)) h

-- and sets that meet in an element are not
pub not_apart : (a b rest : List Element) (x : Element) → met a b ≡ x ∷ rest → ¬ (AreApart a b)
not_apart a b rest x e apart =
    let both = sym (has-met a b x) ∙ ap (λ s. has s x) e ∙ has_first x rest in
    true≢false (sym (right_of_both (has a x) (has b x) both) ∙ apart x (left_of_both (has a x) (has b x) both))
