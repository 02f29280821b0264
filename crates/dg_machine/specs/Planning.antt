-- The plans of commands: over which graph of the index, and to which node.
use Rattle.std.specs.Prelude.{◌≡◌, ℕ, Bool, ◌&&◌, ◌||◌, not, List as ListOf, [], ◌∷◌, Option, Some, None, if◌then◌else◌, map, take}
use Rattle.std.specs.List.{AllZip, flat_map}
use Rattle.dg_expr.specs.Expressions.{instants_of, words_of}
use Rattle.dg_graph.specs.declared.element.Columns.{Columns}
use Rattle.dg_history.specs.declared.node.NodeId.{NodeId}
use Rattle.dg_history.specs.declared.node.NodeId.TheVariants.{Root}
use Rattle.dg_history.specs.History.{events_of}
use Rattle.dg_plan.specs.declared.edge.Edge.{Edge}
use Rattle.dg_plan.specs.HistoryGraph.{ground_of_history, ground_of_records}
use Rattle.dg_plan.specs.IndexGraph.{Ground, nodes_of, edges_of, arcs_of}
use Rattle.dg_plan.specs.InstantPoint.{point}
use Rattle.dg_plan.specs.Walks.{Graft, IsPlan, IsPotential, IsTree, AreSingles, weight_of}
use Rattle.dg_machine.specs.declared.command.Command.{Command}
use Rattle.dg_machine.specs.declared.command.Command.TheVariants as command
use Rattle.dg_machine.specs.declared.selection.Selection.TheVariants.{Chosen}
use Rattle.dg_machine.specs.declared.stands.Stands.{Stands}
use Rattle.dg_machine.specs.MachineState.{MachineState, base_node, history_in}

-- the first columns have all of the second
abbrev pub includes : Columns → Columns → Bool
includes all cols = (all.nodes_attr || not cols.nodes_attr) && (all.edges_attr || not cols.edges_attr)

-- the handle with the node, where there is one and it can serve
abbrev pub base_if : Bool → ℕ → Option NodeId → ListOf (ℕ × NodeId)
base_if serves handle None = []
base_if serves handle (Some node) = if serves then (handle, node) ∷ [] else []

-- the handle and its node, where it stands for a node in columns that can serve these
abbrev pub usable : Columns → ℕ × Stands → ListOf (ℕ × NodeId)
usable cols (handle, stands) = base_if (includes stands.cols cols) handle (base_node stands.what)

-- the handles whose nodes can serve a retrieval in these columns, the oldest first
abbrev pub bases_in : Columns → ListOf (ℕ × Stands) → ListOf (ℕ × NodeId)
bases_in cols table = flat_map (usable cols) table

-- the graph of the index, with the current graph, and with the handles that can serve
abbrev pub ground_in : MachineState → Columns → Ground
ground_in m cols = record (ground_of_history (history_in m.index) cols) { bases = bases_in cols m.table }

abbrev pub edges_in : MachineState → Columns → ListOf Edge
edges_in m cols = edges_of (ground_in m cols)

abbrev pub nodes_in : MachineState → Columns → ListOf NodeId
nodes_in m cols = nodes_of (ground_in m cols)

-- the edges between the records alone, without what is in memory
abbrev pub record_edges_in : MachineState → Columns → ListOf Edge
record_edges_in m cols = edges_of (ground_of_records (history_in m.index) cols)

-- the node from which the graph as of an instant is reached
abbrev pub point_for : MachineState → ℕ → NodeId
point_for m t = point (history_in m.index).params (events_of (history_in m.index)) t

-- What is planned for a command: the steps of a plan, and a potential for each node, in their order; or the
-- grafts of a tree, and the weights of the single plans.
pub record Planned : Type 0 where
  pub steps : ListOf ℕ
  pub potentials : ListOf ℕ
  pub grafts : ListOf (Graft NodeId)
  pub singles : ListOf ℕ

abbrev pub no_plan : Planned
no_plan = record { steps = []; potentials = []; grafts = []; singles = [] }

-- the nodes from which the graphs as of these instants are reached
abbrev pub points_for : MachineState → ListOf ℕ → ListOf NodeId
points_for m times = map (point_for m) times

-- This is planned for the command: the least plan of its instant, for `plan` with the potentials that certify
-- it; the tree of its instants, for an expression of its distinct ones; or the least plan of its node, over the records
-- alone. Most commands have no plan.
abbrev pub IsPlanned : MachineState → Command → Planned → Type 0
IsPlanned m (command.At t cols) p = IsPlan (arcs_of (edges_in m cols)) (Root ∷ []) (point_for m t) p.steps
IsPlanned m (command.Several cols times count) p =
    IsTree (arcs_of (edges_in m cols)) (Root ∷ []) (points_for m (take count times)) p.grafts
    × AreSingles (arcs_of (edges_in m cols)) (Root ∷ []) (points_for m (take count times)) p.singles
IsPlanned m (command.Materialise node cols) p = IsPlan (arcs_of (record_edges_in m cols)) (Root ∷ []) node p.steps
IsPlanned m (command.Plan t cols) p =
    IsPlan (arcs_of (edges_in m cols)) (Root ∷ []) (point_for m t) p.steps
    × AllZip (IsPotential (arcs_of (edges_in m cols)) (Root ∷ []) (weight_of (arcs_of (edges_in m cols)) p.steps)) (nodes_in m cols) p.potentials
IsPlanned m (command.Select (Chosen e) cols) p =
    IsTree (arcs_of (edges_in m cols)) (Root ∷ []) (points_for m (instants_of (words_of e))) p.grafts
IsPlanned m c p = p ≡ no_plan
