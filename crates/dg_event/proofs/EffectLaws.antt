-- Adding an element undoes its removal, and removing it undoes its addition.
use Rattle.std.proofs.Common.{◌≡◌, Bool, true, false, not, ◌&&◌, List, Option, Some, None, IfSome, refl, ap, ◌∙◌}
use Rattle.dg_graph.specs.declared.element.Element.{Element}
use Rattle.dg_graph.specs.Elements.{IsSet, has, same, put, take_out, with_one, without}
use Rattle.dg_graph.proofs.Sets.{has-take_out, IsSet-take_out, put-take_out, take_out-put}

and_false : (a : Bool) → (a && false) ≡ false
and_false true = refl
and_false false = refl

-- a set lacks, without one element, what it lacks
lacks_still : (set : List Element) (x y : Element) → has set y ≡ false → has (take_out x set) y ≡ false
lacks_still set x y lacks = has-take_out x set y ∙ ap (λ b. not (same y x) && b) lacks ∙ and_false (not (same y x))

pub undone : (set : List Element) (removed added : Option Element) → IsSet set → IfSome removed (λ x. has set x ≡ true)
    → IfSome added (λ x. has set x ≡ false) → with_one (without (with_one (without set removed) added) added) removed ≡ set
undone set None None is there lacks = refl
undone set None (Some y) is there lacks = take_out-put y set is lacks
undone set (Some x) None is there lacks = put-take_out x set is there
undone set (Some x) (Some y) is there lacks =
    ap (put x) (take_out-put y (take_out x set) (IsSet-take_out x set is) (lacks_still set x y lacks)) ∙ put-take_out x set is there
