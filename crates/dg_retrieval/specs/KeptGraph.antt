-- The graph of the records that an index keeps.
use Rattle.std.specs.Prelude.{◌≡◌, ◌≢◌, ℕ, Bool, false, List as ListOf, [], None, nat_lt}
use Rattle.std.specs.List.{All}
use Rattle.dg_graph.specs.declared.element.Columns.{Columns}
use Rattle.dg_history.specs.declared.node.Key.{Key}
use Rattle.dg_history.specs.declared.node.NodeId.{NodeId}
use Rattle.dg_history.specs.declared.node.NodeId.TheVariants.{List}
use Rattle.dg_history.specs.declared.params.Params.{Params}
use Rattle.dg_index.specs.declared.entry.Entry.{Entry}
use Rattle.dg_index.specs.OpenedIndex.{Opening, event_total}
use Rattle.dg_plan.specs.declared.edge.Edge.{Edge}
use Rattle.dg_plan.specs.HistoryGraph.{all_columns}
use Rattle.dg_plan.specs.IndexGraph.{Ground, edges_of, nodes_of}
use Rattle.dg_planner.specs.Bases.{ground_of}
use Rattle.dg_catalogue.specs.declared.shape.Shape.{Shape}
use Rattle.dg_catalogue.specs.Entries.{Holdings}

-- the shape of an index with these parameters and so many events
abbrev pub shape_with : Params → ℕ → Shape
shape_with params n = record { l = params.l; k = params.k; events = n }

-- what a catalogue of these records holds
abbrev pub holding : ListOf (Key × Entry) → Holdings
holding records = record { entries = records; span = None; spare = 0 }

-- no base holds the graph of a list
abbrev pub HoldNoList : ListOf (ℕ × NodeId) → Type 0
HoldNoList bases = All (λ (b : ℕ × NodeId). (i : ℕ) → b.1 ≢ List i) bases

-- the graph of an index with so many events and with these bases, and with the current graph where there is an event
abbrev pub kept_ground : Opening → ℕ → Columns → ListOf (ℕ × NodeId) → Ground
kept_ground o n cols bases = record (ground_of (shape_with o.params n) (holding o.records) cols [] (nat_lt 0 n)) { bases = bases }

abbrev pub kept_edges : Opening → ℕ → Columns → ListOf (ℕ × NodeId) → ListOf Edge
kept_edges o n cols bases = edges_of (kept_ground o n cols bases)

-- its nodes, which are the same whatever the bases
abbrev pub kept_nodes : Opening → ℕ → Columns → ListOf NodeId
kept_nodes o n cols = nodes_of (kept_ground o n cols [])

-- these are the edges of the index in these columns, with bases of which none holds the graph of a list, and with the
-- current graph where there is an event
abbrev pub IsKeptGraph : Opening → Columns → ListOf Edge → Type 0
IsKeptGraph o cols edges = (bases : ListOf (ℕ × NodeId)) × HoldNoList bases × (edges ≡ kept_edges o (event_total o.batches) cols bases)

-- the graph of the records of an index in these columns, with these bases: with the current graph, or without
abbrev pub index_ground : Opening → Columns → Bool → ListOf (ℕ × NodeId) → Ground
index_ground o cols memory bases = record (ground_of (shape_with o.params (event_total o.batches)) (holding o.records) cols [] memory) { bases = bases }

abbrev pub index_edges : Opening → Columns → Bool → ListOf (ℕ × NodeId) → ListOf Edge
index_edges o cols memory bases = edges_of (index_ground o cols memory bases)

-- the graph of the records of an index alone, which have all their columns
abbrev pub record_ground : Opening → Ground
record_ground o = ground_of (shape_with o.params (event_total o.batches)) (holding o.records) all_columns [] false

abbrev pub record_edges : Opening → ListOf Edge
record_edges o = edges_of (record_ground o)

abbrev pub record_nodes : Opening → ListOf NodeId
record_nodes o = nodes_of (record_ground o)
