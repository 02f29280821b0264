-- Least costs: what a table of costs shows, and what a plan is worth.
use Rattle.std.proofs.Common.{◌≡◌, ℕ, ◌+◌, ◌≤◌, List, [], ◌∷◌, ◌++◌, length, Some, refl, sym, ap, subst, ◌∙◌, arith}
use Rattle.std.specs.Prelude.{slice_get}
use Rattle.std.specs.List.{All, Contains}
use Rattle.std.proofs.lemmas.Option.{same_Some}
use Rattle.std.proofs.lemmas.List.Elements.{All-head, All-tail}
use Rattle.dg_plan.specs.Walks.{Arc, Cost, Leads, Reaches, cost_of, weight_of, with_edge, AtMost, no_cost, IsLeast, IsBest, IsPlan, IsCertificate}
use Rattle.dg_plan.proofs.WalkCosts.{plus, at_most_both, same_cost, cost_front, cost_last}

from_nothing : (c : Cost) → plus no_cost c ≡ c
from_nothing c = same_cost _ _ (omega arith) (omega arith)

in_front : (c : Cost) (w : ℕ) (rest whole : Cost) → whole ≡ (w + rest.0, rest.1 + 1) → plus (with_edge c w) rest ≡ plus c whole
in_front c w rest whole e = same_cost _ _ (let h = ap (λ (x : Cost). x.0) e in omega (arith, h)) (let h = ap (λ (x : Cost). x.1) e in omega (arith, h))

-- ---- walks

pub walk_more : {N : Type 0} (g : List (Arc N)) (a : N) (steps : List ℕ) (i : ℕ) (e : Arc N) → slice_get g i ≡ Some e → Leads g a steps e.from → Leads g a (steps ++ i ∷ []) e.to
walk_more g a [] i e there leads = (e, there, sym leads, refl)
walk_more g a (k ∷ steps) i e there leads = (leads.0, leads.1, leads.2, walk_more g leads.0.to steps i e there leads.3)

pub walk_joined : {N : Type 0} (g : List (Arc N)) (a b c : N) (steps more : List ℕ) → Leads g a steps b → Leads g b more c → Leads g a (steps ++ more) c
walk_joined g a b c [] more leads next = subst (λ n. Leads g n more c) (sym leads) next
walk_joined g a b c (k ∷ steps) more leads next = (leads.0, leads.1, leads.2, walk_joined g leads.0.to b c steps more leads.3 next)

pub reaches_more : {N : Type 0} (g : List (Arc N)) (starts : List N) (steps : List ℕ) (i : ℕ) (e : Arc N) → slice_get g i ≡ Some e → Reaches g starts steps e.from → Reaches g starts (steps ++ i ∷ []) e.to
reaches_more g starts steps i e there r = (r.0, r.1, walk_more g r.0 steps i e there r.2)

-- ---- a table of costs in which no edge can be relaxed

pub record Settled {N : Type 0} (g : List (Arc N)) (d : N → Cost) : Type 0 where
  pub relaxed : (i : ℕ) (e : Arc N) → slice_get g i ≡ Some e → AtMost (d e.to) (with_edge (d e.from) e.weight)

pub along : {N : Type 0} (g : List (Arc N)) (d : N → Cost) → Settled g d → (a : N) (steps : List ℕ) (v : N) → Leads g a steps v → AtMost (d v) (plus (d a) (cost_of g steps))
along g d s a [] v leads = let e : d a ≡ d v = ap d leads in (omega (arith, ap (λ (c : Cost). c.0) e, ap (λ (c : Cost). c.1) e), λ h. omega (arith, ap (λ (c : Cost). c.0) e, ap (λ (c : Cost). c.1) e))
along g d s a (i ∷ steps) v leads =
    let e = leads.0 in
    let here : AtMost (d e.to) (with_edge (d e.from) e.weight) = s.relaxed i e leads.1 in
    let from : d e.from ≡ d a = ap d leads.2 in
    let rest : AtMost (d v) (plus (d e.to) (cost_of g steps)) = along g d s e.to steps v leads.3 in
    let cost = cost_front g i steps e leads.1 in
    let w : weight_of g (i ∷ steps) ≡ e.weight + weight_of g steps = ap (λ (c : Cost). c.0) cost in
    let n : length (i ∷ steps) ≡ length steps + 1 = ap (λ (c : Cost). c.1) cost in
    step (d v) (d e.to) (d e.from) (d a) (weight_of g (i ∷ steps)) (length (i ∷ steps)) e.weight (weight_of g steps) (length steps) here from rest w n
  where
    step : (v to from a : Cost) (whole long weight rest short : ℕ) → AtMost to (with_edge from weight) → from ≡ a → AtMost v (plus to (rest, short))
        → whole ≡ weight + rest → long ≡ short + 1 → AtMost v (plus a (whole, long))
    step v to from a whole long weight rest short x e y w n =
        let e0 : from.0 ≡ a.0 = ap (λ (c : Cost). c.0) e in
        let e1 : from.1 ≡ a.1 = ap (λ (c : Cost). c.1) e in
        (omega arith, λ h. omega arith)

-- a settled table that is at no cost at the starting nodes is below the cost of every walk
pub below_walks : {N : Type 0} (g : List (Arc N)) (starts : List N) (d : N → Cost) → Settled g d → ((a : N) → Contains starts a → d a ≡ no_cost)
    → (steps : List ℕ) (v : N) → Reaches g starts steps v → AtMost (d v) (cost_of g steps)
below_walks g starts d s zero steps v r =
    let at = along g d s r.0 steps v r.2 in
    let z = zero r.0 r.1 in
    subst (AtMost (d v)) (from_nothing (cost_of g steps)) (subst (λ c. AtMost (d v) (plus c (cost_of g steps))) z at)

-- so it is least where it is the cost of a walk
pub least_in : {N : Type 0} (g : List (Arc N)) (starts : List N) (d : N → Cost) → Settled g d → ((a : N) → Contains starts a → d a ≡ no_cost)
    → (v : N) (steps : List ℕ) → Reaches g starts steps v → cost_of g steps ≡ d v → IsLeast g starts v (d v)
least_in g starts d s zero v steps r is = record { steps = steps; walk = r; is = is; least = λ others o. below_walks g starts d s zero others v o }

-- ---- least costs

pub least_is_one : {N : Type 0} (g : List (Arc N)) (starts : List N) (v : N) (c d : Cost) → IsLeast g starts v c → IsLeast g starts v d → c ≡ d
least_is_one g starts v c d x y =
    at_most_both c d (subst (AtMost c) y.is (x.least y.steps y.walk)) (subst (AtMost d) x.is (y.least x.steps x.walk))

-- a starting node costs nothing, and only a starting node does
pub start_is_least : {N : Type 0} (g : List (Arc N)) (starts : List N) (a : N) → Contains starts a → IsLeast g starts a no_cost
start_is_least g starts a in' = record { steps = []; walk = (a, in', refl); is = refl; least = λ others o. (omega arith, λ h. omega arith) }

-- ---- the plan

-- a walk of best steps from a node of least cost leads to least costs
pub best_from : {N : Type 0} (g : List (Arc N)) (starts : List N) (a : N) (c : Cost) (steps : List ℕ) (v : N) → IsLeast g starts a c → Leads g a steps v → All (IsBest g starts) steps
    → IsLeast g starts v (plus c (cost_of g steps))
best_from g starts a c [] v least leads best = subst (λ n. IsLeast g starts n (plus c (cost_of g []))) leads (subst (IsLeast g starts a) (same_cost c (plus c (cost_of g [])) (omega arith) (omega arith)) least)
best_from {N} g starts a c (i ∷ steps) v least leads best = by (All-head (IsBest g starts) i steps best) (λ d at. best_from g starts leads.0.to d steps v at leads.3 (All-tail (IsBest g starts) i steps best))
  where
    by : IsBest g starts i → ((d : Cost) → IsLeast g starts leads.0.to d → IsLeast g starts v (plus d (cost_of g steps))) → IsLeast g starts v (plus c (cost_of g (i ∷ steps)))
    by b go =
        let at = b.attains in
        let e : at.edge ≡ leads.0 = same_Some _ _ (sym at.there ∙ leads.1) in
        let tail : IsLeast g starts a at.before = subst (λ n. IsLeast g starts n at.before) (ap (λ (x : Arc N). x.from) e ∙ leads.2) at.tail in
        let before : at.before ≡ c = least_is_one g starts a at.before c tail least in
        let head : IsLeast g starts leads.0.to (with_edge at.before at.edge.weight) = subst (λ n. IsLeast g starts n (with_edge at.before at.edge.weight)) (ap (λ (x : Arc N). x.to) e) at.head in
        let head_c : IsLeast g starts leads.0.to (with_edge c leads.0.weight) = subst (IsLeast g starts leads.0.to) (λ k. with_edge (before k) ((e k).weight)) head in
        let end = go (with_edge c leads.0.weight) head_c in
        let front = cost_front g i steps leads.0 leads.1 in
        subst (IsLeast g starts v) (in_front c leads.0.weight (cost_of g steps) (cost_of g (i ∷ steps)) front) end

-- a plan is a walk of least cost
pub plan_is_least : {N : Type 0} (g : List (Arc N)) (starts : List N) (v : N) (steps : List ℕ) → IsPlan g starts v steps → IsLeast g starts v (cost_of g steps)
plan_is_least g starts v steps p =
    let end = best_from g starts p.walk.0 no_cost steps v (start_is_least g starts p.walk.0 p.walk.1) p.walk.2 p.best in
    subst (IsLeast g starts v) (from_nothing (cost_of g steps)) end

-- ---- certificates

pub rises_along : {N : Type 0} (g : List (Arc N)) (p : N → ℕ) → ((i : ℕ) (e : Arc N) → slice_get g i ≡ Some e → p e.to ≤ p e.from + e.weight)
    → (a : N) (steps : List ℕ) (v : N) → Leads g a steps v → p v ≤ p a + weight_of g steps
rises_along g p rises a [] v leads = let e : p a ≡ p v = ap p leads in omega arith
rises_along g p rises a (i ∷ steps) v leads =
    let here = rises i leads.0 leads.1 in
    let from : p leads.0.from ≡ p a = ap p leads.2 in
    let rest = rises_along g p rises leads.0.to steps v leads.3 in
    let w : weight_of g (i ∷ steps) ≡ leads.0.weight + weight_of g steps = ap (λ (c : Cost). c.0) (cost_front g i steps leads.0 leads.1) in
    omega arith

-- no walk to the target weighs less than a certified one
pub certified : {N : Type 0} (g : List (Arc N)) (root target : N) (p : N → ℕ) (steps : List ℕ) (weight : ℕ) → IsCertificate g root target p steps weight
    → (others : List ℕ) → Leads g root others target → weight ≤ weight_of g others
certified g root target p steps weight c others leads =
    let up = rises_along g p c.rises root others target leads in
    let z = c.root_at_zero in
    let t = c.at_target in
    omega arith

-- least costs rise along an edge by at most its weight
pub least_along : {N : Type 0} (g : List (Arc N)) (starts : List N) (i : ℕ) (e : Arc N) (c d : Cost) → slice_get g i ≡ Some e → IsLeast g starts e.from c → IsLeast g starts e.to d → AtMost d (with_edge c e.weight)
least_along g starts i e c d there from to =
    subst (AtMost d) (cost_last g from.steps i e there ∙ ap (λ x. with_edge x e.weight) from.is) (to.least (from.steps ++ i ∷ []) (reaches_more g starts from.steps i e there from.walk))

-- the last step of a walk that has one
pub last_of : {N : Type 0} (g : List (Arc N)) (a : N) (i : ℕ) (steps : List ℕ) (v : N) → Leads g a (i ∷ steps) v
    → (front : List ℕ) × (k : ℕ) × (e : Arc N) × (i ∷ steps ≡ front ++ k ∷ []) × (slice_get g k ≡ Some e) × Leads g a front e.from × (e.to ≡ v)
last_of g a i [] v leads = ([], i, leads.0, refl, leads.1, sym leads.2, leads.3)
last_of g a i (j ∷ steps) v leads =
    let r = last_of g leads.0.to j steps v leads.3 in
    (i ∷ r.0, r.1, r.2, ap (λ s. i ∷ s) r.3, r.4, (leads.0, leads.1, leads.2, r.5), r.6)
