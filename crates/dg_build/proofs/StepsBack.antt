-- Steps from set to set in the order of time, and back over them.
use Rattle.std.proofs.Common.{◌≡◌, ℕ, suc, ◌+◌, ◌-◌, ◌≤◌, List, [], ◌∷◌, ◌++◌, length, get_or, map, take, drop, reverse, refl, sym, ap, ◌∙◌, arith, length-take-le}
use Rattle.std.proofs.lemmas.List.{reverse-append, drop-take, take_at}
use Rattle.std.proofs.Math.Seq.{take-add}
use Rattle.dg_graph.specs.declared.element.Element.{Element}
use Rattle.dg_graph.specs.declared.event.Event.{Event}
use Rattle.dg_history.specs.declared.node.NodeId.{NodeId}
use Rattle.dg_history.specs.declared.node.NodeId.TheVariants as node
use Rattle.dg_history.specs.declared.params.Params.{Params}
use Rattle.dg_graph.specs.Composition.{Delta, applied, between, reversed}
use Rattle.dg_graph.specs.Elements.{IsSet}
use Rattle.dg_graph.proofs.ExactEvents.{IsSet-replay_from}
use Rattle.dg_delta.specs.Deltas.{applied_in_turn}
use Rattle.dg_delta.proofs.Deltas.{reversed_leads_back}
use Rattle.dg_index.specs.Hierarchy.{leaves, set_of}
use Rattle.dg_index.proofs.HierarchySteps.{IsSet-node}
use Rattle.dg_build.specs.InteriorDeltas.{steps_to}
use Rattle.dg_build.specs.GivenDeltas.{gone_back}

-- ---- steps in two parts

pub first_of_both : (a b : List (List Element)) (end : List Element) → get_or (a ++ b) 0 end ≡ get_or a 0 (get_or b 0 end)
first_of_both [] b end = refl
first_of_both (set ∷ a) b end = refl

pub steps_of_both : (a b : List (List Element)) (end : List Element) → steps_to (a ++ b) end ≡ steps_to a (get_or b 0 end) ++ steps_to b end
steps_of_both [] b end = refl
steps_of_both (set ∷ a) b end = (λ i. between set (first_of_both a b end i) ∷ steps_of_both a b end i)

pub steps_long : (sets : List (List Element)) (end : List Element) → length (steps_to sets end) ≡ length sets
steps_long [] end = refl
steps_long (set ∷ sets) end = ap suc (steps_long sets end)

-- ---- the last of the steps that are left

module _ {X : Type 0} (xs : List X) (at n : ℕ) (within : at ≤ length xs) (few : n ≤ at) where
  pub rest_there : take (at - n) xs ≡ take (length (take at xs) - n) (take at xs)
  rest_there =
      let cut : take at xs ≡ take (at - n) xs ++ take n (drop (at - n) xs) = ap (λ m. take m xs) (let e : at ≡ at - n + n = omega (arith, few) in e) ∙ take-add (at - n) n xs in
      sym (take_at (take (at - n) xs) (take n (drop (at - n) xs)) (at - n) (length-take-le (at - n) xs (omega (arith, within)))) ∙ ap (take (at - n)) (sym cut) ∙ ap (λ m. take (m - n) (take at xs)) (sym (length-take-le at xs within))

  pub last_there : take (at - (at - n)) (drop (at - n) xs) ≡ drop (length (take at xs) - n) (take at xs)
  last_there =
      let width : at - (at - n) ≡ n = omega (arith, few) in
      let whole : at - n + n ≡ at = omega (arith, few) in
      ap (λ m. take m (drop (at - n) xs)) width ∙ sym (drop-take (at - n) n xs) ∙ (λ i. drop (sym (length-take-le at xs within) i - n) (take (whole i) xs))

-- ---- the set that steps lead back to

turn_push : (steps : List Delta) (d : Delta) (set : List Element) → applied_in_turn (map reversed (steps ++ d ∷ [])) set ≡ applied (reversed d) (applied_in_turn (map reversed steps) set)
turn_push [] d set = refl
turn_push (step ∷ steps) d set = turn_push steps d (applied (reversed step) set)

back_front : (d : Delta) (steps : List Delta) (set : List Element) → gone_back (d ∷ steps) set ≡ applied (reversed d) (gone_back steps set)
back_front d steps set = ap (λ (l : List Delta). applied_in_turn (map reversed l) set) (reverse-append (d ∷ []) steps) ∙ turn_push (reverse steps) d set

-- the set of each node is one
pub IsSet-of : (p : Params) (past : List Event) (n : NodeId) → IsSet (set_of p past n)
IsSet-of p past node.Root = tt
IsSet-of p past node.Now = IsSet-replay_from past [] tt
IsSet-of p past node.Recent = IsSet-node p past 0 (leaves p (length past))
IsSet-of p past (node.Leaf j) = IsSet-node p past 0 j
IsSet-of p past (node.List i) = IsSet-node p past 0 i
IsSet-of p past (node.Inner h j) = IsSet-node p past h j

-- exact steps between nodes lead back to the first of them
pub back_to_first : (p : Params) (past : List Event) (nodes : List NodeId) (end : List Element) → IsSet end → gone_back (steps_to (map (set_of p past) nodes) end) end ≡ get_or (map (set_of p past) nodes) 0 end
back_to_first p past [] end is = refl
back_to_first p past (n ∷ nodes) end is =
    let sets : List (List Element) = map (set_of p past) nodes in
    let next : List Element = get_or sets 0 end in
    back_front (between (set_of p past n) next) (steps_to sets end) end ∙ ap (applied (reversed (between (set_of p past n) next))) (back_to_first p past nodes end is) ∙ reversed_leads_back (set_of p past n) next (IsSet-of p past n) (is_next nodes)
  where
    is_next : (nodes : List NodeId) → IsSet (get_or (map (set_of p past) nodes) 0 end)
    is_next [] = is
    is_next (n ∷ nodes) = IsSet-of p past n
