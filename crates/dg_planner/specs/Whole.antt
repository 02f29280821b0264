-- A planner as a value, and what holds of each.
use Rattle.std.specs.Prelude.{true, false, ◌≡◌, ℕ, ◌*◌, ◌<◌, ◌≤◌, ◌^◌, List, [], ◌∷◌, length}
use Rattle.std.specs.List.{All, Contains}
use Rattle.dg_history.specs.declared.node.NodeId.{NodeId}
use Rattle.dg_plan.specs.declared.edge.Edge.{Edge}
use Rattle.dg_plan.specs.Walks.{Grows, renamed}
use Rattle.dg_plan.specs.IndexGraph.{Ground, nodes_of, arcs_of}
use Rattle.dg_plan.specs.EnteredRecords.{EntersOnce}
use Rattle.dg_path.specs.declared.search.Link.{Link}
use Rattle.dg_path.specs.declared.search.Cost.{Cost as Label}
use Rattle.dg_path.specs.declared.adjacency.Adjacency.{Adjacency}
use Rattle.dg_path.specs.Search.{AreLinks, AreAdjacent, CostsFit, IsTable, arcs, label_at}
use Rattle.dg_planner.specs.Order.{AreStarts, node_index_of}

-- the graph of a planner: its nodes and its edges, each in their order
pub record PlannerGraph : Type 0 where
  pub nodes : List NodeId
  pub edges : List Edge

-- both ends of the edge are nodes of the graph
abbrev pub IsBetween : List NodeId → Edge → Type 0
IsBetween nodes e = Contains nodes e.from × Contains nodes e.to

-- No node is farther from the root than so many bytes: one is reached over the lists of events, and from there
-- over one delta of each height.
abbrev pub FARTHEST : ℕ
FARTHEST = 29 * 2 ^ 48

-- the most bytes that a tree of 32 targets weighs, and their single plans together
abbrev pub TREE_WEIGHT_MAX : ℕ
TREE_WEIGHT_MAX = 32 * FARTHEST

-- The edges are those of a graph of this form, the links are the same edges by the indices of their ends, and
-- the costs are the least ones of all nodes from the root.
pub record IsWhole (g : Ground) (edges : List Edge) (starts : List ℕ) (links : List Link) (outs ins : Adjacency) (costs : List Label) : Type 0 where
  pub leaves : g.leaves < 2 ^ 28
  pub low : 2 ≤ g.arity
  pub high : g.arity ≤ 64
  pub starts_are : AreStarts g.leaves g.arity starts
  pub ends : All (IsBetween (nodes_of g)) edges
  pub once : (tree : List NodeId) (steps : List ℕ) → Grows (arcs_of edges) tree steps → EntersOnce edges steps
  pub links_are : AreLinks links (length costs)
  pub count : length costs ≡ length (nodes_of g)
  pub few : length links < 2 ^ 32
  pub named : arcs links ≡ renamed (node_index_of g) (arcs_of edges)
  pub out_chains : AreAdjacent true links outs.first.items outs.next.items (length costs)
  pub in_chains : AreAdjacent false links ins.first.items ins.next.items (length costs)
  pub table : IsTable (arcs links) (0 ∷ []) costs
  pub fits : CostsFit costs
  pub near : (v : ℕ) → v < length costs → (label_at costs v).weight ≤ FARTHEST
