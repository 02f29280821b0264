-- What is made is whole.
use Rattle.std.proofs.Common.{◌≡◌, ℕ, ◌+◌, ◌*◌, ◌^◌, ◌≤◌, ◌<◌, List as ListOf, [], ◌∷◌, length, get_or, map, Some, refl, sym, ap, subst, ◌∙◌, arith}
use Rattle.std.specs.Prelude.{slice_get}
use Rattle.std.proofs.lemmas.Option.{slice_get-get_or}
use Rattle.dg_history.specs.declared.node.NodeId.{NodeId}
use Rattle.dg_history.specs.declared.node.NodeId.TheVariants.{Root}
use Rattle.dg_history.specs.declared.node.Key.{Key}
use Rattle.dg_plan.specs.declared.edge.Edge.{Edge}
use Rattle.dg_path.specs.declared.search.Link.{Link}
use Rattle.dg_path.specs.declared.search.Cost.{Cost as Label}
use Rattle.dg_plan.specs.Walks.{Cost, Leads, renamed, cost_of, AtMost}
use Rattle.dg_path.specs.Search.{arcs, arc, cost_at, label_at, IsTable}
use Rattle.dg_plan.proofs.WalkNames.{walk_renamed, cost_renamed}
use Rattle.dg_path.proofs.SearchTables.{below_all}
use Rattle.dg_plan.specs.IndexGraph.{Ground, nodes_of, edges_of, arcs_of, IsReached, lists_before}
use Rattle.dg_planner.specs.Order.{node_index_of}
use Rattle.dg_planner.specs.Links.{link_in}
use Rattle.dg_planner.specs.Bases.{HasBases}
use Rattle.dg_planner.specs.Whole.{FARTHEST}
use Rattle.dg_planner.proofs.OrderPlaces.{stands}
use Rattle.dg_planner.proofs.OrderEnds.{all_reached, small_height}

pub arcs_are : (g : Ground) (edges : ListOf Edge) → arcs (map (link_in g.leaves g.arity g.memory) edges) ≡ renamed (node_index_of g) (arcs_of edges)
arcs_are g [] = refl
arcs_are g (e ∷ edges) = ap (λ t. arc (link_in g.leaves g.arity g.memory e) ∷ t) (arcs_are g edges)

-- each node is near the root
pub all_near : (g : Ground) (low : 2 ≤ g.arity) (bases : HasBases g) → g.leaves < 2 ^ 28 → ((k : Key) → g.weight k ≤ 2 ^ 48) → lists_before g.weight g.leaves ≤ 2 ^ 48
    → (links : ListOf Link) → links ≡ map (link_in g.leaves g.arity g.memory) (edges_of g) → (costs : ListOf Label) → length costs ≡ length (nodes_of g) → IsTable (arcs links) (0 ∷ []) costs
    → (v : ℕ) → v < length costs → (label_at costs v).weight ≤ FARTHEST
all_near g low bases few light lists links is costs len t v within =
    let x : NodeId = get_or (nodes_of g) v Root in
    let there : slice_get (nodes_of g) v ≡ Some x = slice_get-get_or (nodes_of g) v Root (omega arith) in
    let node_index : node_index_of g x ≡ v = stands g v x there ∙ omega arith in
    let r : IsReached g x (lists_before g.weight g.leaves + 28 * 2 ^ 48) = all_reached g low bases 28 (2 ^ 48) (λ h. small_height g low bases h few) light v Root (omega arith) in
    let named : arcs links ≡ renamed (node_index_of g) (arcs_of (edges_of g)) = ap arcs is ∙ arcs_are g (edges_of g) in
    let walk : Leads (renamed (node_index_of g) (arcs_of (edges_of g))) 0 r.steps (node_index_of g x) = walk_renamed (node_index_of g) (arcs_of (edges_of g)) Root r.steps x r.walk in
    let walk' : Leads (arcs links) 0 r.steps v = subst (λ h. Leads h 0 r.steps v) (sym named) (subst (Leads (renamed (node_index_of g) (arcs_of (edges_of g))) 0 r.steps) node_index walk) in
    let cost : cost_of (arcs links) r.steps ≡ cost_of (arcs_of (edges_of g)) r.steps = ap (λ h. cost_of h r.steps) named ∙ cost_renamed (node_index_of g) (arcs_of (edges_of g)) Root r.steps x r.walk in
    let below : AtMost (cost_at costs v) (cost_of (arcs links) r.steps) = below_all links costs (0 ∷ []) t v r.steps (0, (0, omega arith, refl), walk') in
    let w = r.weighs in
    let low' = below.0 in
    let c = ap (λ (z : Cost). z.0) cost in
    omega arith
