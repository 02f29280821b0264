-- The laws of the graph and of the points that a catalogue of a history gives.
use Rattle.std.specs.Prelude.{◌≡◌, ℕ, true, false, List, [], ◌∷◌, Option, Some, None, length, nat_lt}
use Rattle.dg_graph.specs.declared.element.Columns.{Columns}
use Rattle.dg_graph.specs.declared.event.Event.{Event}
use Rattle.dg_history.specs.declared.node.NodeId.{NodeId}
use Rattle.dg_history.specs.History.{History, events_of, span_of, in_range}
use Rattle.dg_history.specs.LegalHistory.{IsLegal}
use Rattle.dg_index.specs.declared.entry.Ends.{Ends}
use Rattle.dg_index.specs.IndexRecords.{recent_of}
use Rattle.dg_index.specs.OpenedIndex.{opened_of}
use Rattle.dg_plan.specs.HistoryGraph.{ground_of_history}
use Rattle.dg_plan.specs.IndexGraph.{edges_of, nodes_of}
use Rattle.dg_plan.specs.InstantPoint.{point}
use Rattle.dg_catalogue.specs.declared.shape.Shape.{Shape}
use Rattle.dg_catalogue.specs.Entries.{Holdings}
use Rattle.dg_catalogue.specs.Points.{ListsRise, point_of}
use Rattle.dg_planner.specs.Bases.{ground_of}

-- the shape of the index of a history
abbrev pub shape_of : History → Shape
shape_of z = record { l = z.params.l; k = z.params.k; events = length (events_of z) }

-- the catalogue holds the records of the history
abbrev pub HoldsRecordsOf : History → Holdings → Type 0
HoldsRecordsOf z catalogue = catalogue.entries ≡ (opened_of z).index.records

-- a catalogue that holds the records of a history gives the graph of the history, with whatever bases
abbrev pub GraphOfHistory : Type 0
GraphOfHistory =
    (z : History) → IsLegal z → (catalogue : Holdings) → HoldsRecordsOf z catalogue → (cols : Columns) → (bases : List (ℕ × NodeId))
    → (edges_of (record (ground_of (shape_of z) catalogue cols [] (nat_lt 0 (length (events_of z)))) { bases = bases }) ≡ edges_of (record (ground_of_history z cols) { bases = bases }))
    × (nodes_of (ground_of (shape_of z) catalogue cols [] (nat_lt 0 (length (events_of z)))) ≡ nodes_of (ground_of_history z cols))

-- the first and the last time, as a catalogue keeps them
abbrev pub kept_span : Option (ℕ × ℕ) → Option Ends
kept_span None = None
kept_span (Some ends) = Some (record { first = ends.0; last = ends.1 })

-- the time of the first of these events, where there is one
abbrev pub first_time_in : List Event → Option ℕ
first_time_in [] = None
first_time_in (e ∷ events) = Some e.time

-- The lists of a catalogue that holds the records of a history rise. With the first and the last time of the history,
-- the node that it gives for an instant in range is the instant's point, and out of range it gives none.
abbrev pub PointsOfHistory : Type 0
PointsOfHistory =
    (z : History) → IsLegal z → (catalogue : Holdings) → HoldsRecordsOf z catalogue
    → ListsRise catalogue
    × (catalogue.span ≡ kept_span (span_of (events_of z)) → (t : ℕ) → in_range (span_of (events_of z)) t ≡ true
    → point_of catalogue t (first_time_in (recent_of z.params (events_of z))) ≡ Some (point z.params (events_of z) t))
    × (catalogue.span ≡ kept_span (span_of (events_of z)) → (t : ℕ) → in_range (span_of (events_of z)) t ≡ false
    → point_of catalogue t (first_time_in (recent_of z.params (events_of z))) ≡ None)
