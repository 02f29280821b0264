-- Reading the recent events of an index: those of the pieces behind its last closed list.
use Rattle.std.specs.Prelude.{ℕ, ◌+◌, Bool, ◌&&◌, List, [], ◌∷◌, ◌++◌, Option, Some, None, Result, Ok, Err, if◌then◌else◌, map, max, nat_le}
use Rattle.dg_graph.specs.declared.element.Column.{Column}
use Rattle.dg_graph.specs.declared.element.Column.TheVariants as column
use Rattle.dg_graph.specs.declared.element.Element.{Element}
use Rattle.dg_graph.specs.declared.event.Event.{Event}
use Rattle.dg_graph.specs.declared.placed.Placed.{Placed}
use Rattle.dg_graph.specs.ColumnGrammar.{events_in as read_as_events}
use Rattle.dg_graph.specs.ColumnMerge.{merged}
use Rattle.dg_graph.specs.Completion.{completes}
use Rattle.dg_graph.specs.Effect.{forwards}
use Rattle.dg_history.specs.declared.node.Key.{Key}
use Rattle.dg_history.specs.declared.node.Key.TheVariants as key
use Rattle.dg_index.specs.OpenedIndex.{Opening, column_at, entry_at, last_list}
use Rattle.dg_index.specs.declared.entry.Ends.{Ends}
use Rattle.dg_index.specs.RecentEvents.{RecentPiece, pieces_ahead}
use Rattle.dg_start.specs.declared.fault.StartFault.{StartFault}
use Rattle.dg_start.specs.declared.fault.StartFault.TheVariants as fault

-- Events that stand in one record: its key, how many they are, and the times that each has to lie between.
pub record Source : Type 0 where
  pub key : Key
  pub count : ℕ
  pub ends : Ends

-- ---- where the recent events stand

-- a recent piece: its events lie between the times of its batch, and none is earlier than the last list's last
abbrev pub piece_source : Opening → RecentPiece → Source
piece_source o piece = record {
  key = key.Piece piece.number;
  count = piece.count;
  ends = record { first = max piece.batch.ends.first (last_list 0 o.records); last = piece.batch.ends.last };
}

-- the recent pieces, in their order
abbrev pub recent_sources : Opening → List Source
recent_sources o = map (piece_source o) (pieces_ahead o.params 0 0 [] o.batches)

-- ---- reading them

-- the first result, and then what follows from it
abbrev pub and_start : {A B : Type 0} → Result A StartFault → (A → Result B StartFault) → Result B StartFault
and_start (Ok x) next = next x
and_start (Err f) next = Err f

abbrev pub spelled_or_fault : Key → Column → Result (List Placed) ℕ → Result (List Placed) StartFault
spelled_or_fault k col (Ok placed) = Ok placed
spelled_or_fault k col (Err offset) = Err (fault.BadRecord k col)

-- what a column of a record is read as, with so many names
abbrev pub placed_in_record : List ℕ → ℕ → Opening → Key → Column → Result (List Placed) StartFault
placed_in_record image names o k col = spelled_or_fault k col (read_as_events col names (column_at image (entry_at o k) col))

abbrev pub merged_or_fault : Key → Option (List Event) → Result (List Event) StartFault
merged_or_fault k (Some events) = Ok events
merged_or_fault k None = Err (fault.BadRecord k column.Structure)

-- the events of a record, or its first column that is in no spelling, or structure where the columns do
-- not come together to as many events as are due
abbrev pub events_in_source : List ℕ → ℕ → Opening → Source → Result (List Event) StartFault
events_in_source image names o s =
    and_start (placed_in_record image names o s.key column.Structure) (λ a.
    and_start (placed_in_record image names o s.key column.NodeAttr) (λ b.
    and_start (placed_in_record image names o s.key column.EdgeAttr) (λ c.
    and_start (placed_in_record image names o s.key column.Transient) (λ d. merged_or_fault s.key (merged a b c d s.count)))))

-- the events of these records, one record after another, each event with the times that it has to lie between
abbrev pub events_in_sources : List ℕ → ℕ → Opening → List Source → Result (List (Ends × Event)) StartFault
events_in_sources image names o [] = Ok []
events_in_sources image names o (s ∷ more) =
    and_start (events_in_source image names o s) (λ events.
    and_start (events_in_sources image names o more) (λ later. Ok (map (λ (e : Event). (s.ends, e)) events ++ later)))

-- ---- testing them

-- the event is what some change comes to after the set, and lies between its times
abbrev pub is_right : List (List ℕ) → List Element → Ends × Event → Bool
is_right names set e = completes names set e.1.body && (nat_le e.0.first e.1.time && nat_le e.1.time e.0.last)

-- the number of the first event that is not right, after the set, where they are numbered from n on
abbrev pub first_wrong_event : List (List ℕ) → ℕ → List Element → List (Ends × Event) → Option ℕ
first_wrong_event names n set [] = None
first_wrong_event names n set (e ∷ more) = if is_right names set e then first_wrong_event names (n + 1) (forwards set e.1) more else Some n

-- the events that were read, without their times' bounds
abbrev pub events_read : List (Ends × Event) → List Event
events_read events = map (λ (e : Ends × Event). e.1) events

-- the recent events of an image that is opened as this index with so many names, or the first damage
abbrev pub recent_in_image : List ℕ → ℕ → Opening → Result (List (Ends × Event)) StartFault
recent_in_image image names o = events_in_sources image names o (recent_sources o)
