-- The graph in which a session plans, by the planners that it keeps.
use Rattle.std.proofs.Common.{◌≡◌, ◌≢◌, ℕ, Bool, true, false, List as ListOf, [], ◌∷◌, ◌++◌, Option, Some, None, ◌∙◌, ap, subst}
use Rattle.std.specs.Prelude.{IfSome}
use Rattle.std.specs.List.{All}
use Rattle.std.proofs.lemmas.Bool.{false≢true}
use Rattle.std.proofs.lemmas.List.Elements.{All-cons, All-head, All-nil, All-tail}
use Rattle.dg_file.specs.Index.{IndexState}
use Rattle.dg_graph.specs.declared.element.Columns.{Columns}
use Rattle.dg_handles.specs.Handles.{HoldsNode}
use Rattle.dg_history.specs.declared.node.NodeId.{NodeId}
use Rattle.dg_history.specs.declared.node.NodeId.TheVariants.{List}
use Rattle.dg_index.specs.OpenedIndex.{Opening, event_total}
use Rattle.dg_machine.specs.declared.stands.Stands.{Stands}
use Rattle.dg_machine.specs.MachineState.{base_node}
use Rattle.dg_machine.specs.Planning.{base_if, bases_in, includes}
use Rattle.dg_planner.specs.Whole.{PlannerGraph}
use Rattle.dg_retrieval.specs.KeptGraph.{HoldNoList, kept_edges, kept_nodes}
use Rattle.dg_session.specs.contracts.session.Session.{the_view}
use Rattle.dg_session.specs.declared.session.Session.TheInside.{Inside}
use Rattle.dg_ask.specs.HeldIndex.{HasNode, HasNodeOf, HasNodes, has_node_held}
use Rattle.dg_ask.specs.KeptPlanner.{IsGraphFor, IsKeptFor, IsKeptIn}
use Rattle.dg_session.specs.Parts.{Parts}
use Rattle.dg_stored.specs.StoredHistory.{index_opening}

-- no handle holds a list
no_list : (o : Opening) (v : NodeId) → has_node_held (Some o) v ≡ true → (i : ℕ) → v ≢ List i
no_list o v has i e = false≢true (subst (λ x. has_node_held (Some o) x ≡ true) e has)

pub no_lists : (o : Opening) (cols : Columns) (table : ListOf (ℕ × Stands)) → HasNodes (Some o) table → HoldNoList (bases_in cols table)
no_lists o cols [] h = All-nil (λ (b : ℕ × NodeId). (i : ℕ) → b.1 ≢ List i)
no_lists o cols (e ∷ table) h =
    by (includes e.1.cols cols) (base_node e.1.what) (All-head (λ (x : ℕ × Stands). HasNodeOf (Some o) x.1) e table h)
    (no_lists o cols table (All-tail (λ (x : ℕ × Stands). HasNodeOf (Some o) x.1) e table h))
  where
    by : (serves : Bool) (held : Option NodeId) → IfSome held (HasNode (Some o)) → HoldNoList (bases_in cols table) → HoldNoList (base_if serves e.0 held ++ bases_in cols table)
    by serves None has rest = rest
    by false (Some node) has rest = rest
    by true (Some node) has rest = All-cons (λ (b : ℕ × NodeId). (i : ℕ) → b.1 ≢ List i) (e.0, node) (bases_in cols table) (no_list o node has) rest

-- The graph is that of the session's index, with the handles that can serve.
pub record IsPlanningIn (p : Parts) (o : Opening) (cols : Columns) (g : PlannerGraph) : Type 0 where
  pub edges : g.edges ≡ kept_edges o (event_total o.batches) cols (bases_in cols p.table)
  pub nodes : g.nodes ≡ kept_nodes o (event_total o.batches) cols
  pub none : HoldNoList (bases_in cols p.table)

-- by a graph that is kept in these columns
pub graph_for : (o : Opening) (table : ListOf (ℕ × Stands)) (cols : Columns) (kept : ListOf (Columns × PlannerGraph)) (g : PlannerGraph)
    → IsKeptFor (Some o) table kept → IsKeptIn cols kept g → IsGraphFor o table cols g
graph_for o table cols kept g is there = there o table is

pub planning_in : (p : Parts) (s : Inside) (index : IndexState) (cols : Columns) (kept : ListOf (Columns × PlannerGraph)) (g : PlannerGraph)
    → (the_view s).parts ≡ p → s.held.live.history.index ≡ Some index → HasNodes (index_opening s.held.live.history.index) s.held.handles.table
    → IsKeptFor (Some index.opening) s.held.handles.table kept → IsKeptIn cols kept g → IsPlanningIn p index.opening cols g
planning_in p s index cols kept g view there nodes is among =
    let graph = graph_for index.opening s.held.handles.table cols kept g is among in
    let table : s.held.handles.table ≡ p.table = ap (λ (x : Parts). x.table) view in
    let has : HasNodes (Some index.opening) s.held.handles.table = subst (λ i. HasNodes i s.held.handles.table) (ap index_opening there) nodes in
    record {
      edges = graph.edges ∙ ap (λ t. kept_edges index.opening (event_total index.opening.batches) cols (bases_in cols t)) table;
      nodes = graph.nodes;
      none = subst (λ t. HoldNoList (bases_in cols t)) table (no_lists index.opening cols s.held.handles.table has);
    }

-- what the handles hold that can serve, by what the session keeps
pub holds_in : (p : Parts) (s : Inside) (cols : Columns) → (the_view s).parts ≡ p → All (HoldsNode s.held.handles.table cols) (bases_in cols s.held.handles.table)
    → All (HoldsNode p.table cols) (bases_in cols p.table)
holds_in p s cols view h = subst (λ t. All (HoldsNode t cols) (bases_in cols t)) (ap (λ (x : Parts). x.table) view) h
