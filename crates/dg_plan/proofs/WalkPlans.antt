-- There is one plan, and its potentials certify it.
use Rattle.std.proofs.Common.{◌≡◌, ℕ, zero, suc, ◌≤◌, List, [], ◌∷◌, ◌++◌, length, refl, sym, ap, subst, ◌∙◌, arith}
use Rattle.std.specs.Prelude.{slice_get}
use Rattle.std.specs.List.{AllByRecursion}
use Rattle.std.proofs.lemmas.List.{length_push}
use Rattle.std.proofs.lemmas.List.Elements.{All-from_recursion, recursion_from_All}
use Rattle.std.proofs.lemmas.Option.{same_Some}
use Rattle.dg_plan.specs.Walks.{Arc, Cost, Leads, weight_of, cost_of, no_cost, IsBest, IsPlan, IsCertificate, ArePotentials, AllHaveLeast}
use Rattle.dg_plan.proofs.WalkLeastCosts.{last_of, least_along, plan_is_least, least_is_one, start_is_least}

-- ---- potentials

pub potentials_certify : {N : Type 0} (g : List (Arc N)) (root target : N) (potential : N → ℕ) (steps : List ℕ) → IsPlan g (root ∷ []) target steps → Leads g root steps target
    → ArePotentials g (root ∷ []) (weight_of g steps) potential → AllHaveLeast g (root ∷ []) → IsCertificate g root target potential steps (weight_of g steps)
potentials_certify g root target potential steps plan walk are have = record {
  walk = walk;
  root_at_zero = are root no_cost (start_is_least g (root ∷ []) root (0, omega arith, refl)) ∙ omega arith;
  rises = λ i e there.
      (let a = (have i e there).0 in
      let b = (have i e there).1 in
      let low = (least_along g (root ∷ []) i e a.0 b.0 there a.1 b.1).0 in
      let p = are e.from a.0 a.1 in
      let q = are e.to b.0 b.1 in
      omega arith);
  at_target = are target (cost_of g steps) (plan_is_least g (root ∷ []) target steps plan) ∙ omega arith;
  tight = refl;
}

-- ---- one plan

-- what a plan without steps, and one with a last step, shows
empty_plan : {N : Type 0} (g : List (Arc N)) (starts : List N) (v : N) (steps : List ℕ) → IsPlan g starts v steps → length steps ≡ 0 → steps ≡ []
empty_plan g starts v [] p none = refl
empty_plan g starts v (i ∷ steps) p none = absurd (omega arith)

all_front : (P : ℕ → Type 0) (front : List ℕ) (k : ℕ) → AllByRecursion P (front ++ k ∷ []) → AllByRecursion P front × P k
all_front P [] k all = (tt, all.0)
all_front P (x ∷ front) k all = let r = all_front P front k all.1 in ((all.0, r.0), r.1)

pub record LastStep {N : Type 0} (g : List (Arc N)) (starts : List N) (v : N) (steps : List ℕ) : Type 0 where
  pub front : List ℕ
  pub step : ℕ
  pub is : steps ≡ front ++ step ∷ []
  pub best : IsBest g starts step
  pub enters : best.attains.edge.to ≡ v
  pub plan : IsPlan g starts best.attains.edge.from front

last_step : {N : Type 0} (g : List (Arc N)) (starts : List N) (v : N) (i : ℕ) (steps : List ℕ) → IsPlan g starts v (i ∷ steps) → LastStep g starts v (i ∷ steps)
last_step {N = N} g starts v i steps p =
    let last = last_of g p.walk.0 i steps v p.walk.2 in
    let both = all_front (IsBest g starts) last.0 last.1 (subst (AllByRecursion (IsBest g starts)) last.3 (recursion_from_All (IsBest g starts) (i ∷ steps) p.best)) in
    let same : both.1.attains.edge ≡ last.2 = same_Some _ _ (sym both.1.attains.there ∙ last.4) in
    record {
      front = last.0;
      step = last.1;
      is = last.3;
      best = both.1;
      enters = ap (λ (x : Arc N). x.to) same ∙ last.6;
      plan = record {
        walk = (p.walk.0, p.walk.1, subst (λ (x : Arc N). Leads g p.walk.0 last.0 x.from) (sym same) last.5);
        best = All-from_recursion (IsBest g starts) last.0 both.0;
      };
    }

same_length : {N : Type 0} (g : List (Arc N)) (starts : List N) (v : N) (s t : List ℕ) → IsPlan g starts v s → IsPlan g starts v t → length s ≡ length t
same_length g starts v s t p q = ap (λ (c : Cost). c.1) (least_is_one g starts v _ _ (plan_is_least g starts v s p) (plan_is_least g starts v t q))

one_plan_of : {N : Type 0} (g : List (Arc N)) (starts : List N) (n : ℕ) (v : N) (s t : List ℕ) → length s ≡ n → IsPlan g starts v s → IsPlan g starts v t → s ≡ t
one_plan_of g starts n v [] t is p q = sym (empty_plan g starts v t q (sym (same_length g starts v [] t p q)))
one_plan_of g starts n v (i ∷ s) [] is p q = empty_plan g starts v (i ∷ s) p (same_length g starts v (i ∷ s) [] p q)
one_plan_of g starts zero v (i ∷ s) (j ∷ t) is p q = absurd (omega arith)
one_plan_of {N = N} g starts (suc n) v (i ∷ s) (j ∷ t) is p q =
    let a = last_step g starts v i s p in
    let b = last_step g starts v j t q in
    let k : a.step ≡ b.step =
    (let x : a.step ≤ b.step = a.best.first b.step b.best.attains (b.enters ∙ sym a.enters) in
    let y : b.step ≤ a.step = b.best.first a.step a.best.attains (a.enters ∙ sym b.enters) in
    omega arith) in
    let edge : b.best.attains.edge ≡ a.best.attains.edge = same_Some _ _ (sym b.best.attains.there ∙ (ap (slice_get g) (sym k) ∙ a.best.attains.there)) in
    let rest : IsPlan g starts a.best.attains.edge.from b.front = subst (λ (x : Arc N). IsPlan g starts x.from b.front) edge b.plan in
    let short : length a.front ≡ n = (let l = length_push a.front a.step in let m : length (i ∷ s) ≡ length (a.front ++ a.step ∷ []) = ap length a.is in omega arith) in
    let fronts : a.front ≡ b.front = one_plan_of g starts n a.best.attains.edge.from a.front b.front short a.plan rest in
    a.is ∙ ((λ x. fronts x ++ k x ∷ []) ∙ sym b.is)

pub one_plan : {N : Type 0} (g : List (Arc N)) (starts : List N) (v : N) (s t : List ℕ) → IsPlan g starts v s → IsPlan g starts v t → s ≡ t
one_plan g starts v s t p q = one_plan_of g starts (length s) v s t refl p q
