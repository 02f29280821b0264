-- Where one delta leads from a set to another, and a second one back again, what they come to exactly is the exact delta.
use Rattle.std.proofs.Common.{◌≡◌, Bool, true, false, not, ◌&&◌, List, refl, sym, ap, ◌∙◌}
use Rattle.dg_graph.specs.declared.element.Element.{Element}
use Rattle.dg_graph.specs.Composition.{Delta, IsDelta, applied, between, says}
use Rattle.dg_graph.specs.Elements.{IsSet, has}
use Rattle.dg_graph.specs.Sets.{met, without_all}
use Rattle.dg_graph.proofs.Sets.{same_members, has-met, has-without_all, IsSet-met, IsSet-without_all, and_swap}
use Rattle.dg_delta.specs.Deltas.{is_in_after}
use Rattle.dg_delta.proofs.Deltas.{decides_each_element, word}
use Rattle.dg_steps.specs.TreeSteps.{exact_of}

-- the first takes out and the second puts in exactly what was in, and is not behind the first
out_and_in : (m p m2 p2 was : Bool) → (m ≡ true → p ≡ false) → (m2 ≡ true → p2 ≡ false) → is_in_after (word p2 m2) (is_in_after (word p m) was) ≡ was
    → (m && p2) ≡ (was && not (is_in_after (word p m) was))
out_and_in true true m2 p2 was f g e = cc (f refl)
out_and_in true false m2 true true f g e = refl
out_and_in true false m2 true false f g e = cc
out_and_in true false true false true f g e = cc
out_and_in true false true false false f g e = refl
out_and_in true false false false true f g e = cc
out_and_in true false false false false f g e = refl
out_and_in false true m2 p2 true f g e = refl
out_and_in false true m2 p2 false f g e = refl
out_and_in false false m2 p2 true f g e = refl
out_and_in false false m2 p2 false f g e = refl

-- what the first takes out and the second puts in are the elements of the one set that are not in the other
module _ (on back : Delta) (a b : List Element) (f : IsDelta on) (g : IsDelta back) (leads_on : applied on a ≡ b) (leads_back : applied back b ≡ a) where
  behind : (x : Element) → is_in_after (says on x) (has a x) ≡ has b x
  behind x = sym (decides_each_element on a x) ∙ ap (λ s. has s x) leads_on

  there_and_back : (x : Element) → is_in_after (says back x) (is_in_after (says on x) (has a x)) ≡ has a x
  there_and_back x =
      ap (is_in_after (says back x)) (behind x) ∙ sym (decides_each_element back b x) ∙ ap (λ s. has s x) leads_back

  lost : (x : Element) → (has on.minus x && has back.plus x) ≡ (has a x && not (has b x))
  lost x =
      out_and_in (has on.minus x) (has on.plus x) (has back.minus x) (has back.plus x) (has a x) (f.apart x) (g.apart x) (there_and_back x)
      ∙ ap (λ t. has a x && not t) (behind x)

pub exact_between : (on back : Delta) (a b : List Element) → IsDelta on → IsDelta back → IsSet a → IsSet b → applied on a ≡ b → applied back b ≡ a → exact_of on back ≡ between a b
exact_between on back a b f g s t leads_on leads_back =
    let minus =
    same_members (met on.minus back.plus) (without_all a b) (IsSet-met on.minus back.plus f.minus) (IsSet-without_all a b s)
    (λ x. has-met on.minus back.plus x ∙ lost on back a b f g leads_on leads_back x ∙ sym (has-without_all a b x)) in
    let plus =
    same_members (met on.plus back.minus) (without_all b a) (IsSet-met on.plus back.minus f.plus) (IsSet-without_all b a t)
    (λ x.
    has-met on.plus back.minus x ∙ and_swap (has on.plus x) (has back.minus x) ∙ lost back on b a g f leads_back leads_on x ∙ sym (has-without_all b a x)) in
    λ i. record { minus = minus i; plus = plus i }
