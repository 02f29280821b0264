-- The tree of several targets: what it weighs, and what it enters.
use Rattle.std.proofs.Common.{◌≡◌, ℕ, ◌+◌, ◌≤◌, List, [], ◌∷◌, ◌++◌, refl, sym, ap, subst, ◌∙◌, arith, append_assoc, inl, inr}
use Rattle.std.specs.Prelude.{slice_get, ◌⊎◌}
use Rattle.std.specs.Option.{option_map, option_to_list}
use Rattle.std.specs.List.{Contains, AllByRecursion, sum}
use Rattle.std.proofs.lemmas.List.{append-nil}
use Rattle.std.proofs.lemmas.List.Elements.{recursion_from_All, Contains-append_left, Contains-push, Contains-push_cases}
use Rattle.std.proofs.lemmas.List.Sums.{sum_by-cons}
use Rattle.std.proofs.lemmas.Option.{same_Some}
use Rattle.dg_plan.specs.Walks.{Arc, Cost, Leads, weight_of, cost_of, with_edge, AtMost, no_cost, IsLeast, IsBest, IsPlan, Graft, IsTree, tree_weight, AreSingles, steps_of, entered, Grows}
use Rattle.dg_plan.proofs.WalkCosts.{at_most_itself, at_most_along}
use Rattle.dg_plan.proofs.WalkLeastCosts.{plan_is_least, least_is_one, start_is_least}

pub entered-append : {N : Type 0} (g : List (Arc N)) (xs ys : List ℕ) → entered g (xs ++ ys) ≡ entered g xs ++ entered g ys
entered-append g [] ys = refl
entered-append g (x ∷ xs) ys = ap (λ t. option_to_list (option_map (λ e. e.to) (slice_get g x)) ++ t) (entered-append g xs ys) ∙ sym (append_assoc _ (entered g xs) (entered g ys))

-- ---- what a tree weighs

-- from more nodes a plan weighs no more
pub nearer : {N : Type 0} (g : List (Arc N)) (starts tree : List N) → ((a : N) → Contains starts a → Contains tree a) → (v : N) (single graft : List ℕ) → IsPlan g starts v single → IsPlan g tree v graft
    → AtMost (cost_of g graft) (cost_of g single)
nearer g starts tree within v single graft p q = (plan_is_least g tree v graft q).least single (p.walk.0, within p.walk.0 p.walk.1, p.walk.2)

-- the tree weighs at most the sum of the single plans
pub tree_weighs : {N : Type 0} (g : List (Arc N)) (starts tree : List N) → ((a : N) → Contains starts a → Contains tree a) → (targets : List N) (grafts : List (Graft N)) (singles : List ℕ)
    → IsTree g tree targets grafts → AreSingles g starts targets singles → tree_weight g grafts ≤ sum singles
tree_weighs g starts tree within [] [] [] t s = omega arith
tree_weighs g starts tree within [] [] (w ∷ singles) t s = elim s [ ]
tree_weighs g starts tree within [] (x ∷ grafts) singles t s = elim t [ ]
tree_weighs g starts tree within (v ∷ targets) [] singles t s = elim t [ ]
tree_weighs g starts tree within (v ∷ targets) (x ∷ grafts) [] t s = elim s [ ]
tree_weighs {N = N} g starts tree within (v ∷ targets) (x ∷ grafts) (w ∷ singles) t s =
    let one : AtMost (cost_of g x.steps) (cost_of g s.0.0) = nearer g starts tree within v s.0.0 x.steps s.0.1 t.0 in
    let rest : tree_weight g grafts ≤ sum singles = tree_weighs g starts (tree ++ entered g x.steps) (λ a c. Contains-append_left tree (entered g x.steps) a (within a c)) targets grafts singles t.3 s.1 in
    let a : tree_weight g (x ∷ grafts) ≡ weight_of g x.steps + tree_weight g grafts = sum_by-cons (λ (graft : Graft N). weight_of g graft.steps) x grafts in
    let b : sum (w ∷ singles) ≡ w + sum singles = sum_by-cons (λ n. n) w singles in
    let is = s.0.2 in
    let low = one.0 in
    omega arith

-- ---- what a tree enters

-- costs rise along a plan, so it enters no node twice
pub grows_from : {N : Type 0} (g : List (Arc N)) (tree seen : List N) (a : N) (c : Cost) (steps : List ℕ) (v : N)
    → ((y : N) → Contains seen y → (d : Cost) × IsLeast g tree y d × AtMost d c) → Contains seen a → IsLeast g tree a c → Leads g a steps v → AllByRecursion (IsBest g tree) steps → Grows g seen steps
grows_from g tree seen a c [] v low in' least leads best = tt
grows_from {N = N} g tree seen a c (i ∷ steps) v low in' least leads best =
    let at = best.0.attains in
    let e : at.edge ≡ leads.0 = same_Some _ _ (sym at.there ∙ leads.1) in
    let tail : IsLeast g tree a at.before = subst (λ n. IsLeast g tree n at.before) (ap (λ (x : Arc N). x.from) e ∙ leads.2) at.tail in
    let before : at.before ≡ c = least_is_one g tree a at.before c tail least in
    let head : IsLeast g tree leads.0.to (with_edge at.before at.edge.weight) = subst (λ n. IsLeast g tree n (with_edge at.before at.edge.weight)) (ap (λ (x : Arc N). x.to) e) at.head in
    let head_c : IsLeast g tree leads.0.to (with_edge c leads.0.weight) = subst (IsLeast g tree leads.0.to) (λ k. with_edge (before k) ((e k).weight)) head in (
      leads.0,
      leads.1,
      subst (Contains seen) (sym leads.2) in',
      (λ there. past c leads.0.weight (low leads.0.to there).0 (low leads.0.to there).2 (least_is_one g tree leads.0.to _ _ (low leads.0.to there).1 head_c)),
      grows_from g tree (seen ++ leads.0.to ∷ []) leads.0.to (with_edge c leads.0.weight) steps v
          (λ y there. more y leads.0 (Contains-push_cases seen leads.0.to y there) head_c)
          (Contains-push seen leads.0.to) head_c leads.3 best.1,
    )
  where
    past : (c : Cost) (w : ℕ) (d : Cost) → AtMost d c → d ≡ with_edge c w → ⊥
    past c w d low is =
        let x : d.0 ≡ c.0 + w = ap (λ (z : Cost). z.0) is in
        let y : d.1 ≡ c.1 + 1 = ap (λ (z : Cost). z.1) is in
        omega arith

    more : (y : N) (e : Arc N) → Contains seen y ⊎ (e.to ≡ y) → IsLeast g tree e.to (with_edge c e.weight) → (d : Cost) × IsLeast g tree y d × AtMost d (with_edge c e.weight)
    more y e (inl old) head = let h = low y old in (h.0, h.1, at_most_along h.0 c (with_edge c e.weight) h.2 (omega arith, λ z. omega arith))
    more y e (inr new) head = (with_edge c e.weight, subst (λ n. IsLeast g tree n (with_edge c e.weight)) new head, at_most_itself (with_edge c e.weight))

pub plan_grows : {N : Type 0} (g : List (Arc N)) (tree : List N) (v : N) (steps : List ℕ) → IsPlan g tree v steps → Grows g tree steps
plan_grows g tree v steps p =
    grows_from g tree tree p.walk.0 no_cost steps v (λ y there. (no_cost, start_is_least g tree y there, at_most_itself no_cost)) p.walk.1 (start_is_least g tree p.walk.0 p.walk.1) p.walk.2
    (recursion_from_All (IsBest g tree) steps p.best)

pub grows_on : {N : Type 0} (g : List (Arc N)) (tree : List N) (steps more : List ℕ) → Grows g tree steps → Grows g (tree ++ entered g steps) more → Grows g tree (steps ++ more)
grows_on g tree [] more first next = subst (λ t. Grows g t more) (append-nil tree) next
grows_on {N = N} g tree (i ∷ steps) more first next =
    let here : entered g (i ∷ steps) ≡ first.0.to ∷ entered g steps = ap (λ o. option_to_list (option_map (λ (e : Arc N). e.to) o) ++ entered g steps) first.1 in
    let tree' : tree ++ entered g (i ∷ steps) ≡ (tree ++ first.0.to ∷ []) ++ entered g steps = ap (λ t. tree ++ t) here ∙ sym (append_assoc tree (first.0.to ∷ []) (entered g steps)) in
    (first.0, first.1, first.2, first.3, grows_on g (tree ++ first.0.to ∷ []) steps more first.4 (subst (λ t. Grows g t more) tree' next))

-- a tree grows by one new node at each step
pub tree_grows : {N : Type 0} (g : List (Arc N)) (tree : List N) (targets : List N) (grafts : List (Graft N)) → IsTree g tree targets grafts → Grows g tree (steps_of grafts)
tree_grows g tree [] [] t = tt
tree_grows g tree [] (x ∷ grafts) t = elim t [ ]
tree_grows g tree (v ∷ targets) [] t = elim t [ ]
tree_grows g tree (v ∷ targets) (x ∷ grafts) t =
    grows_on g tree x.steps (steps_of grafts) (plan_grows g tree v x.steps t.0) (tree_grows g (tree ++ entered g x.steps) targets grafts t.3)

-- ---- one more graft

pub steps_more : {N : Type 0} (xs : List (Graft N)) (x : Graft N) → steps_of (xs ++ x ∷ []) ≡ steps_of xs ++ x.steps
steps_more [] x = append-nil x.steps
steps_more (y ∷ xs) x = ap (λ t. y.steps ++ t) (steps_more xs x) ∙ sym (append_assoc y.steps (steps_of xs) x.steps)

pub tree_push : {N : Type 0} (g : List (Arc N)) (tree : List N) (targets : List N) (grafts : List (Graft N)) (target : N) (x : Graft N) → IsTree g tree targets grafts
    → IsPlan g (tree ++ entered g (steps_of grafts)) target x.steps → Contains (tree ++ entered g (steps_of grafts)) x.from → Leads g x.from x.steps target
    → IsTree g tree (targets ++ target ∷ []) (grafts ++ x ∷ [])
tree_push {N = N} g tree [] [] target x t plan from leads =
    let same : tree ++ entered g (steps_of {N = N} []) ≡ tree = append-nil tree in
    (subst (λ s. IsPlan g s target x.steps) same plan, subst (λ s. Contains s x.from) same from, leads, tt)
tree_push g tree [] (y ∷ grafts) target x t plan from leads = elim t [ ]
tree_push g tree (v ∷ targets) [] target x t plan from leads = elim t [ ]
tree_push {N = N} g tree (v ∷ targets) (y ∷ grafts) target x t plan from leads =
    let same : tree ++ entered g (steps_of (y ∷ grafts)) ≡ (tree ++ entered g y.steps) ++ entered g (steps_of grafts) =
    ap (λ s. tree ++ s) (entered-append g y.steps (steps_of grafts)) ∙ sym (append_assoc tree (entered g y.steps) (entered g (steps_of grafts))) in
    (t.0, t.1, t.2, tree_push g (tree ++ entered g y.steps) targets grafts target x t.3 (subst (λ s. IsPlan g s target x.steps) same plan) (subst (λ s. Contains s x.from) same from) leads)

-- the nodes so far, with those of one more graft
pub nodes_more : {N : Type 0} (g : List (Arc N)) (tree : List N) (grafts : List (Graft N)) (x : Graft N)
    → (tree ++ entered g (steps_of grafts)) ++ entered g x.steps ≡ tree ++ entered g (steps_of (grafts ++ x ∷ []))
nodes_more g tree grafts x =
    append_assoc tree (entered g (steps_of grafts)) (entered g x.steps)
    ∙ ap (λ s. tree ++ s) (sym (entered-append g (steps_of grafts) x.steps) ∙ ap (entered g) (sym (steps_more grafts x)))
