-- The potentials of a plan certify it.
use Rattle.std.proofs.Common.{◌≡◌, ℕ, zero, suc, ◌<◌, Bool, true, false, cond, List as ListOf, [], ◌∷◌, length, get_or, min, Some, refl, sym, ap, subst, ◌∙◌, arith}
use Rattle.std.specs.Prelude.{◌==◌, ◌&&◌, slice_get, zip}
use Rattle.std.specs.List.{All, AllZip, Contains}
use Rattle.std.proofs.lemmas.Bool.{and_parts, eq-eqb, eqb-true, false≢true}
use Rattle.std.proofs.lemmas.Option.{slice_get_within, get_or_from_slice_get}
use Rattle.dg_history.specs.declared.node.NodeId.{NodeId}
use Rattle.dg_history.specs.declared.node.NodeId.TheVariants as node
use Rattle.dg_plan.specs.declared.edge.Edge.{Edge}
use Rattle.dg_plan.specs.CertificateLines.{potential_in}
use Rattle.dg_plan.specs.IndexGraph.{arcs_of, edges_of, nodes_of}
use Rattle.dg_plan.specs.InstantPoint.{same_node}
use Rattle.dg_plan.specs.Walks.{Arc, ArePotentials, Cost, IsCertificate, IsPlan, IsPotential, Leads, Reaches, cost_of, no_cost, weight_of}
use Rattle.dg_plan.proofs.WalkLeastCosts.{least_along, least_is_one, plan_is_least, start_is_least}
use Rattle.dg_planner.specs.PlanLaws.{PlansAreCertificates}
use Rattle.dg_planner.specs.Whole.{IsBetween}
use Rattle.dg_planner.proofs.OrderEnds.{ends_in}
use Rattle.dg_planner.proofs.OrderPlans.{edge_of}

-- two nodes are the same where they are equal
same_exact : (a b : NodeId) → same_node a b ≡ true → a ≡ b
same_exact node.Root node.Root e = refl
same_exact node.Now node.Now e = refl
same_exact node.Recent node.Recent e = refl
same_exact (node.Leaf i) (node.Leaf j) e = ap (λ n. node.Leaf n) (eqb-true i j e)
same_exact (node.List i) (node.List j) e = ap (λ n. node.List n) (eqb-true i j e)
same_exact (node.Inner h i) (node.Inner g j) e = let p = and_parts (h == g) (i == j) e in λ k. node.Inner (eqb-true h g p.0 k) (eqb-true i j p.1 k)
same_exact a b e = absurd (false≢true e)

same_itself : (a : NodeId) → same_node a a ≡ true
same_itself node.Root = refl
same_itself node.Now = refl
same_itself node.Recent = refl
same_itself (node.Leaf i) = eq-eqb i i refl
same_itself (node.List i) = eq-eqb i i refl
same_itself (node.Inner h i) = λ k. eq-eqb h h refl k && eq-eqb i i refl k

-- what is written of a node that is among them is its potential
potential_of : (P : NodeId → ℕ → Type 0) (weight : ℕ) (nodes : ListOf NodeId) (potentials : ListOf ℕ) (v : NodeId) → AllZip P nodes potentials → Contains nodes v → P v (potential_in weight (zip nodes potentials) v)
potential_of P weight [] potentials v each c = absurd (let h = c.1 in omega arith)
potential_of P weight (x ∷ nodes) [] v each c = absurd each
potential_of P weight (x ∷ nodes) (p ∷ potentials) v each c = by (same_node x v) refl c.0 c.1 c.2 (λ k within is. potential_of P weight nodes potentials v each.1 (k, within, is))
  where
    by : (b : Bool) → same_node x v ≡ b → (k : ℕ) → k < suc (length nodes) → get_or (x ∷ nodes) k v ≡ v → ((k : ℕ) → k < length nodes → get_or nodes k v ≡ v → P v (potential_in weight (zip nodes potentials) v))
        → P v (cond b p (potential_in weight (zip nodes potentials) v))
    by true same k within is rest = subst (λ w. P w p) (same_exact x v same) each.0
    by false apart zero within is rest = absurd (false≢true (sym apart ∙ (ap (same_node x) (sym is) ∙ same_itself x)))
    by false apart (suc k) within is rest = rest k (omega arith) is

-- a walk from one of the starting nodes begins at the root, which is the only one
from_root : (edges : ListOf Edge) (steps : ListOf ℕ) (v : NodeId) → Reaches (arcs_of edges) (node.Root ∷ []) steps v → Leads (arcs_of edges) node.Root steps v
from_root edges steps v r = by r.1.0 r.1.1 r.1.2
  where
    by : (k : ℕ) → k < 1 → get_or (node.Root ∷ []) k r.0 ≡ r.0 → Leads (arcs_of edges) node.Root steps v
    by zero h e = subst (λ a. Leads (arcs_of edges) a steps v) (sym e) r.2
    by (suc k) h e = absurd (omega arith)

module _ (edges : ListOf Edge) (nodes : ListOf NodeId) (root : Contains nodes node.Root) (ends : All (IsBetween nodes) edges) where
  -- both ends of each arc are nodes
  between : (i : ℕ) (a : Arc NodeId) → slice_get (arcs_of edges) i ≡ Some a → Contains nodes a.from × Contains nodes a.to
  between i a is =
      let e = edge_of edges i a is in
      subst (λ (x : Arc NodeId). Contains nodes x.from × Contains nodes x.to) e.2 (subst (IsBetween nodes) (get_or_from_slice_get edges i e.0 e.0 e.1) (ends i e.0 (slice_get_within edges i e.0 e.1)))

  -- so a walk ends at one
  walk_within : (a : NodeId) (steps : ListOf ℕ) (v : NodeId) → Contains nodes a → Leads (arcs_of edges) a steps v → Contains nodes v
  walk_within a [] v an leads = subst (Contains nodes) leads an
  walk_within a (i ∷ steps) v an leads = walk_within leads.0.to steps v (between i leads.0 leads.1).1 leads.3

  module _ (weight : ℕ) (potentials : ListOf ℕ) (are : AllZip (IsPotential (arcs_of edges) (node.Root ∷ []) weight) nodes potentials) where
    abbrev potential : NodeId → ℕ
    potential = potential_in weight (zip nodes potentials)

    -- each node has its potential
    has_potential : (v : NodeId) → Contains nodes v → IsPotential (arcs_of edges) (node.Root ∷ []) weight v (potential v)
    has_potential v vn = potential_of (IsPotential (arcs_of edges) (node.Root ∷ []) weight) weight nodes potentials v are vn

    pub least_are_potentials : ArePotentials (arcs_of edges) (node.Root ∷ []) weight (potential_in weight (zip nodes potentials))
    least_are_potentials v c least =
        let vn : Contains nodes v = walk_within node.Root least.steps v root (from_root edges least.steps v least.walk) in
        let p = has_potential v vn in
        p.2 ∙ ap (λ (x : Cost). min x.0 weight) (least_is_one (arcs_of edges) (node.Root ∷ []) v p.0 c p.1 least)

    pub plan_is_certificate : (target : NodeId) (steps : ListOf ℕ) → IsPlan (arcs_of edges) (node.Root ∷ []) target steps → weight ≡ weight_of (arcs_of edges) steps
        → IsCertificate (arcs_of edges) node.Root target (potential_in weight (zip nodes potentials)) steps weight
    plan_is_certificate target steps plan is = record {
      walk = from_root edges steps target plan.walk;
      root_at_zero = least_are_potentials node.Root no_cost (start_is_least (arcs_of edges) (node.Root ∷ []) node.Root (0, omega arith, refl)) ∙ omega arith;
      rises = λ i e there. (
          let both = between i e there in
          let a = has_potential e.from both.0 in
          let b = has_potential e.to both.1 in
          let low = (least_along (arcs_of edges) (node.Root ∷ []) i e a.0 b.0 there a.1 b.1).0 in
          let p = a.2 in
          let q = b.2 in
          omega arith);
      at_target = least_are_potentials target (cost_of (arcs_of edges) steps) (plan_is_least (arcs_of edges) (node.Root ∷ []) target steps plan) ∙ (let w = is in omega arith);
      tight = sym is;
    }

pub plans_are_certificates : PlansAreCertificates
plans_are_certificates g low bases target steps potentials plan are =
    plan_is_certificate (edges_of g) (nodes_of g) (0, omega arith, refl) (ends_in g low bases) (weight_of (arcs_of (edges_of g)) steps) potentials are target steps plan refl
