use Rattle.std.proofs.Common.{◌≡◌, ℕ, ◌≤◌, ◌<◌, List, [], ◌∷◌, length, refl, sym, subst, ◌∙◌, arith}
use Rattle.std.specs.Prelude.{IfOk, slice_index, zip}
use Rattle.std.specs.List.{All, AllZip, Contains}
use Rattle.dg_history.specs.declared.node.NodeId.TheVariants.{Root}
use Rattle.dg_plan.specs.IndexGraph.{arcs_of, nodes_of}
use Rattle.dg_plan.specs.CertificateLines.{potential_in}
use Rattle.dg_plan.specs.Walks.{ArePotentials, IsCertificate, IsPlan, IsPotential, Leads, weight_of}
use Rattle.dg_path.specs.declared.route.Route.{Route}
use Rattle.dg_path.specs.declared.search.Cost.{Cost as Label}
use Rattle.dg_path.specs.Search.{IsTarget, arcs}
use Rattle.dg_planner.specs.Order.{bare_ground, node_index_of}
use Rattle.dg_planner.specs.Whole.{FARTHEST, IsBetween, PlannerGraph}
use Rattle.dg_planner.proofs.OrderPlans.{is_target, node_is, ok_both, ok_more, plan_is, plan_is_near, plan_within, potentials_are, walk_by_indices, weight_is}
use Rattle.dg_planner.proofs.PlanPotentials.{least_are_potentials, plan_is_certificate}
use Rattle.dg_planner.proofs.planner.Planner.plan.Goals as goal

pub node_index-node_index-requires-clause-node : goal.node_index-node_index-requires-clause-node
node_index-node_index-requires-clause-node c =
    node_is (bare_ground c.self.inside.form.leaves c.self.inside.form.arity c.self.inside.form.memory) c.self.invariant.low c.args.target
    (subst (λ (s : PlannerGraph). Contains s.nodes c.args.target) (sym c.self.view_is) c.requires.target)

pub route_to-requires-clause-target : goal.route_to-requires-clause-target
route_to-requires-clause-target c =
    let vn = subst (λ (s : PlannerGraph). Contains s.nodes c.args.target) (sym c.self.view_is) c.requires.target in
    subst (λ cs. IsTarget cs c.node_index-node_index.result) (sym c.deref-3.ensures.value)
    (subst (IsTarget c.self.inside.costs.items) (sym c.node_index-node_index.ensures) (is_target _ _ _ _ _ _ _ c.self.invariant c.args.target vn))

pub returns-clause-plan : goal.returns-clause-plan
returns-clause-plan c =
    let vn = subst (λ (s : PlannerGraph). Contains s.nodes c.args.target) (sym c.self.view_is) c.requires.target in
    let g = bare_ground c.self.inside.form.leaves c.self.inside.form.arity c.self.inside.form.memory in
    let here : IfOk c.route_to.result (λ (r : Route). IsPlan (arcs c.self.inside.links.items) (0 ∷ []) (node_index_of g c.args.target) r.steps.items) =
    subst (λ ls. IfOk c.route_to.result (λ (r : Route). IsPlan (arcs ls) (0 ∷ []) (node_index_of g c.args.target) r.steps.items)) c.deref-2.ensures.value
    (subst (λ p. IfOk c.route_to.result (λ (r : Route). IsPlan (arcs c.deref-2.result.now) (0 ∷ []) p r.steps.items)) c.node_index-node_index.ensures c.route_to.ensures.plan) in
    subst (λ (s : PlannerGraph). IfOk c.route_to.result (λ (r : Route). IsPlan (arcs_of s.edges) (Root ∷ []) c.args.target r.steps.items)) c.self.view_is
    (ok_more (λ (r : Route). IsPlan (arcs c.self.inside.links.items) (0 ∷ []) (node_index_of g c.args.target) r.steps.items) (λ (r : Route). IsPlan (arcs_of c.self.inside.edges.items) (Root ∷ []) c.args.target r.steps.items) c.route_to.result here
    (λ r p. plan_is _ _ _ _ _ _ _ c.self.invariant c.args.target r.steps.items vn p))

pub returns-clause-steps : goal.returns-clause-steps
returns-clause-steps c =
    ok_more (λ (r : Route). IsPlan (arcs_of c.args.self.now.edges) (Root ∷ []) c.args.target r.steps.items) (λ (r : Route). All (λ i. i < length c.args.self.now.edges) r.steps.items) c.route_to.result (returns-clause-plan c)
    (λ r p. plan_within c.args.self.now.edges (Root ∷ []) c.args.target r.steps.items p)

pub returns-clause-weight : goal.returns-clause-weight
returns-clause-weight c =
    let vn = subst (λ (s : PlannerGraph). Contains s.nodes c.args.target) (sym c.self.view_is) c.requires.target in
    let edges = c.self.inside.edges.items in
    let plan = subst (λ (s : PlannerGraph). IfOk c.route_to.result (λ (r : Route). IsPlan (arcs_of s.edges) (Root ∷ []) c.args.target r.steps.items)) (sym c.self.view_is) (returns-clause-plan c) in
    let weight : IfOk c.route_to.result (λ (r : Route). r.weight ≡ weight_of (arcs c.self.inside.links.items) r.steps.items) =
    subst (λ ls. IfOk c.route_to.result (λ (r : Route). r.weight ≡ weight_of (arcs ls) r.steps.items)) c.deref-2.ensures.value c.route_to.ensures.weight in
    subst (λ (s : PlannerGraph). IfOk c.route_to.result (λ (r : Route). r.weight ≡ weight_of (arcs_of s.edges) r.steps.items)) c.self.view_is
    (ok_more (λ (r : Route). IsPlan (arcs_of edges) (Root ∷ []) c.args.target r.steps.items × (r.weight ≡ weight_of (arcs c.self.inside.links.items) r.steps.items)) (λ (r : Route). r.weight ≡ weight_of (arcs_of edges) r.steps.items) c.route_to.result
    (ok_both (λ (r : Route). IsPlan (arcs_of edges) (Root ∷ []) c.args.target r.steps.items) (λ (r : Route). r.weight ≡ weight_of (arcs c.self.inside.links.items) r.steps.items) c.route_to.result plan weight)
    (λ r h. h.1 ∙ weight_is _ _ _ _ _ _ _ c.self.invariant h.0.walk.0 r.steps.items c.args.target h.0.walk.2))

pub returns-clause-potentials : goal.returns-clause-potentials
returns-clause-potentials c =
    let links = c.self.inside.links.items in
    let costs = c.self.inside.costs.items in
    let nodes = nodes_of (bare_ground c.self.inside.form.leaves c.self.inside.form.arity c.self.inside.form.memory) in
    let edges = c.self.inside.edges.items in
    let len : IfOk c.route_to.result (λ (r : Route). length r.potentials.items ≡ length costs) =
    subst (λ (cs : List Label). IfOk c.route_to.result (λ (r : Route). length r.potentials.items ≡ length cs)) c.deref-3.ensures.value c.route_to.ensures.len in
    let are : IfOk c.route_to.result (λ (r : Route). (v : ℕ) → IsTarget costs v → IsPotential (arcs links) (0 ∷ []) r.weight v (slice_index r.potentials.items v)) =
    subst (λ ls. IfOk c.route_to.result (λ (r : Route). (v : ℕ) → IsTarget costs v → IsPotential (arcs ls) (0 ∷ []) r.weight v (slice_index r.potentials.items v))) c.deref-2.ensures.value
    (subst (λ cs. IfOk c.route_to.result (λ (r : Route). (v : ℕ) → IsTarget cs v → IsPotential (arcs c.deref-2.result.now) (0 ∷ []) r.weight v (slice_index r.potentials.items v))) c.deref-3.ensures.value c.route_to.ensures.potentials) in
    subst (λ (s : PlannerGraph). IfOk c.route_to.result (λ (r : Route). AllZip (IsPotential (arcs_of s.edges) (Root ∷ []) r.weight) s.nodes r.potentials.items)) c.self.view_is
    (ok_more (λ (r : Route). (length r.potentials.items ≡ length costs) × ((v : ℕ) → IsTarget costs v → IsPotential (arcs links) (0 ∷ []) r.weight v (slice_index r.potentials.items v)))
    (λ (r : Route). AllZip (IsPotential (arcs_of edges) (Root ∷ []) r.weight) nodes r.potentials.items) c.route_to.result
    (ok_both (λ (r : Route). length r.potentials.items ≡ length costs) (λ (r : Route). (v : ℕ) → IsTarget costs v → IsPotential (arcs links) (0 ∷ []) r.weight v (slice_index r.potentials.items v)) c.route_to.result len are)
    (λ r h. potentials_are _ _ _ _ _ _ _ c.self.invariant r.weight r.potentials.items h.0 h.1))

pub returns-clause-least : goal.returns-clause-least
returns-clause-least c =
    let g = bare_ground c.self.inside.form.leaves c.self.inside.form.arity c.self.inside.form.memory in
    let links = c.self.inside.links.items in
    let edges = c.self.inside.edges.items in
    let here : IfOk c.route_to.result (λ (r : Route). (others : List ℕ) → Leads (arcs links) 0 others (node_index_of g c.args.target) → r.weight ≤ weight_of (arcs links) others) =
    subst (λ ls. IfOk c.route_to.result (λ (r : Route). (others : List ℕ) → Leads (arcs ls) 0 others (node_index_of g c.args.target) → r.weight ≤ weight_of (arcs ls) others)) c.deref-2.ensures.value
    (subst (λ p. IfOk c.route_to.result (λ (r : Route). (others : List ℕ) → Leads (arcs c.deref-2.result.now) 0 others p → r.weight ≤ weight_of (arcs c.deref-2.result.now) others)) c.node_index-node_index.ensures c.route_to.ensures.least) in
    subst (λ (s : PlannerGraph). IfOk c.route_to.result (λ (r : Route). (others : List ℕ) → Leads (arcs_of s.edges) Root others c.args.target → r.weight ≤ weight_of (arcs_of s.edges) others)) c.self.view_is
    (ok_more (λ (r : Route). (others : List ℕ) → Leads (arcs links) 0 others (node_index_of g c.args.target) → r.weight ≤ weight_of (arcs links) others)
    (λ (r : Route). (others : List ℕ) → Leads (arcs_of edges) Root others c.args.target → r.weight ≤ weight_of (arcs_of edges) others) c.route_to.result here
    (λ r least others leads. (let low = least others (walk_by_indices _ _ _ _ _ _ _ c.self.invariant others c.args.target leads) in
    let same = weight_is _ _ _ _ _ _ _ c.self.invariant Root others c.args.target leads in
    omega arith)))

-- the graph has the root, and both ends of each edge
graph : (c : goal.After-route_to) → Contains c.args.self.now.nodes Root × All (IsBetween c.args.self.now.nodes) c.args.self.now.edges
graph c = subst (λ (s : PlannerGraph). Contains s.nodes Root × All (IsBetween s.nodes) s.edges) c.self.view_is ((0, omega arith, refl), c.self.invariant.ends)

pub returns-clause-certificate : goal.returns-clause-certificate
returns-clause-certificate c =
    let edges = c.args.self.now.edges in
    let nodes = c.args.self.now.nodes in
    ok_more (λ (r : Route). (IsPlan (arcs_of edges) (Root ∷ []) c.args.target r.steps.items × (r.weight ≡ weight_of (arcs_of edges) r.steps.items)) × AllZip (IsPotential (arcs_of edges) (Root ∷ []) r.weight) nodes r.potentials.items)
    (λ (r : Route). IsCertificate (arcs_of edges) Root c.args.target (potential_in r.weight (zip nodes r.potentials.items)) r.steps.items r.weight) c.route_to.result
    (ok_both (λ (r : Route). IsPlan (arcs_of edges) (Root ∷ []) c.args.target r.steps.items × (r.weight ≡ weight_of (arcs_of edges) r.steps.items)) (λ (r : Route). AllZip (IsPotential (arcs_of edges) (Root ∷ []) r.weight) nodes r.potentials.items) c.route_to.result
    (ok_both (λ (r : Route). IsPlan (arcs_of edges) (Root ∷ []) c.args.target r.steps.items) (λ (r : Route). r.weight ≡ weight_of (arcs_of edges) r.steps.items) c.route_to.result (returns-clause-plan c) (returns-clause-weight c))
    (returns-clause-potentials c))
    (λ r h. plan_is_certificate edges nodes (graph c).0 (graph c).1 r.weight r.potentials.items h.1 c.args.target r.steps.items h.0.0 h.0.1)

pub returns-clause-everywhere : goal.returns-clause-everywhere
returns-clause-everywhere c =
    let edges = c.args.self.now.edges in
    let nodes = c.args.self.now.nodes in
    ok_more (λ (r : Route). AllZip (IsPotential (arcs_of edges) (Root ∷ []) r.weight) nodes r.potentials.items)
    (λ (r : Route). ArePotentials (arcs_of edges) (Root ∷ []) r.weight (potential_in r.weight (zip nodes r.potentials.items))) c.route_to.result (returns-clause-potentials c)
    (λ r h. least_are_potentials edges nodes (graph c).0 (graph c).1 r.weight r.potentials.items h)

pub returns-clause-near : goal.returns-clause-near
returns-clause-near c =
    let vn = subst (λ (s : PlannerGraph). Contains s.nodes c.args.target) (sym c.self.view_is) c.requires.target in
    let g = bare_ground c.self.inside.form.leaves c.self.inside.form.arity c.self.inside.form.memory in
    let links = c.self.inside.links.items in
    let plan : IfOk c.route_to.result (λ (r : Route). IsPlan (arcs links) (0 ∷ []) (node_index_of g c.args.target) r.steps.items) =
    subst (λ ls. IfOk c.route_to.result (λ (r : Route). IsPlan (arcs ls) (0 ∷ []) (node_index_of g c.args.target) r.steps.items)) c.deref-2.ensures.value
    (subst (λ p. IfOk c.route_to.result (λ (r : Route). IsPlan (arcs c.deref-2.result.now) (0 ∷ []) p r.steps.items)) c.node_index-node_index.ensures c.route_to.ensures.plan) in
    let weight : IfOk c.route_to.result (λ (r : Route). r.weight ≡ weight_of (arcs links) r.steps.items) =
    subst (λ ls. IfOk c.route_to.result (λ (r : Route). r.weight ≡ weight_of (arcs ls) r.steps.items)) c.deref-2.ensures.value c.route_to.ensures.weight in
    ok_more (λ (r : Route). IsPlan (arcs links) (0 ∷ []) (node_index_of g c.args.target) r.steps.items × (r.weight ≡ weight_of (arcs links) r.steps.items)) (λ (r : Route). r.weight ≤ FARTHEST) c.route_to.result
    (ok_both (λ (r : Route). IsPlan (arcs links) (0 ∷ []) (node_index_of g c.args.target) r.steps.items) (λ (r : Route). r.weight ≡ weight_of (arcs links) r.steps.items) c.route_to.result plan weight)
    (λ r h. plan_is_near _ _ _ _ _ _ _ c.self.invariant c.args.target r.steps.items r.weight vn h.0 h.1)
