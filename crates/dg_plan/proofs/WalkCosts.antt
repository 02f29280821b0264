-- The order of costs.
use Rattle.std.proofs.Common.{Some, add-one, ◌≡◌, ℕ, ◌+◌, List, [], ◌∷◌, ◌++◌, length, sym, ap, ◌∙◌, arith}
use Rattle.std.specs.Prelude.{slice_get}
use Rattle.std.proofs.lemmas.List.Sums.{sum_by-cons, sum_by_push}
use Rattle.std.proofs.lemmas.List.{length_push}
use Rattle.dg_plan.specs.Walks.{Arc, Cost, cost_of, weight_of, weight_in, with_edge, AtMost}

abbrev pub plus : Cost → Cost → Cost
plus c d = (c.0 + d.0, c.1 + d.1)

pub at_most_itself : (c : Cost) → AtMost c c
at_most_itself c = (omega arith, λ _. omega arith)

pub at_most_along : (c d e : Cost) → AtMost c d → AtMost d e → AtMost c e
at_most_along c d e x y = (omega arith, λ h. omega arith)

pub at_most_both : (c d : Cost) → AtMost c d → AtMost d c → c ≡ d
at_most_both c d x y = λ i. ((let h : c.0 ≡ d.0 = omega arith in h i), (let h : c.1 ≡ d.1 = omega arith in h i))

pub with_edge_keeps : (c d : Cost) (w : ℕ) → AtMost c d → AtMost (with_edge c w) (with_edge d w)
with_edge_keeps c d w x = (omega arith, λ h. omega arith)

pub same_cost : (c d : Cost) → c.0 ≡ d.0 → c.1 ≡ d.1 → c ≡ d
same_cost c d x y = λ i. (x i, y i)

-- the cost of one more step in front
pub cost_front : {N : Type 0} (g : List (Arc N)) (i : ℕ) (steps : List ℕ) (e : Arc N) → slice_get g i ≡ Some e
    → cost_of g (i ∷ steps) ≡ (e.weight + weight_of g steps, length steps + 1)
cost_front g i steps e there =
    same_cost _ _ (sum_by-cons (λ k. weight_in (slice_get g k)) i steps ∙ ap (λ o. weight_in o + weight_of g steps) there) (sym (add-one (length steps)))

-- the cost of one more step at the end
pub cost_last : {N : Type 0} (g : List (Arc N)) (steps : List ℕ) (i : ℕ) (e : Arc N) → slice_get g i ≡ Some e
    → cost_of g (steps ++ i ∷ []) ≡ with_edge (cost_of g steps) e.weight
cost_last g steps i e there =
    same_cost _ _ (sum_by_push (λ k. weight_in (slice_get g k)) steps i ∙ ap (λ o. weight_of g steps + weight_in o) there) (length_push steps i)
