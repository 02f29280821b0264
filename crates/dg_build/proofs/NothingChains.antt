-- Chains of two deltas, of which one changes nothing.
use Rattle.std.proofs.Common.{◌≡◌, List, [], ◌∷◌, refl, ap, sym, ◌∙◌}
use Rattle.dg_graph.specs.declared.element.Element.{Element}
use Rattle.dg_graph.specs.Elements.{IsSet}
use Rattle.dg_graph.specs.Sets.{unioned, without_all}
use Rattle.dg_graph.specs.Composition.{Delta, IsDelta, chained, nothing}
use Rattle.dg_set.proofs.SetMerges.{unioned_none}

without_none : (set : List Element) → without_all set [] ≡ set
without_none [] = refl
without_none (x ∷ set) = ap (λ (l : List Element). x ∷ l) (without_none set)

put_to_none : (set : List Element) → IsSet set → unioned [] (without_all set []) ≡ set
put_to_none set is = ap (unioned []) (without_none set) ∙ unioned_none set is

pub nothing_first : (d e : Delta) → IsDelta e → d ≡ nothing → e ≡ chained d e
nothing_first d e is none =
    (λ i. record { minus = sym (put_to_none e.minus is.minus) i; plus = sym (put_to_none e.plus is.plus) i }) ∙ ap (λ n. chained n e) (sym none)

pub nothing_last : (d e : Delta) → e ≡ nothing → d ≡ chained d e
nothing_last d e none =
    (λ i. record { minus = sym (without_none d.minus) i; plus = sym (without_none d.plus) i }) ∙ ap (λ n. chained d n) (sym none)
