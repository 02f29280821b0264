-- Lists and deltas as they are written, and which deltas cannot be.
use Rattle.std.specs.Prelude.{◌≡◌, ℕ, ◌+◌, ◌<◌, ◌^◌, ◌||◌, Bool, true, false, List, [], ◌∷◌, Option, Some, None, length, map, nat_le, if◌then◌else◌}
use Rattle.dg_graph.specs.declared.event.Event.{Event}
use Rattle.dg_graph.specs.Composition.{Delta}
use Rattle.dg_history.specs.History.{first_time_of, last_time_from}
use Rattle.dg_index.specs.declared.entry.Row.{Row}
use Rattle.dg_index.specs.IndexRecords.{Events}
use Rattle.dg_index.specs.FileOfHistory.{Segment, Stored, StoredList, stored}
use Rattle.dg_index.specs.OpenedIndex.{last_or}
use Rattle.dg_build.specs.declared.fault.BuildFault.{BuildFault}
use Rattle.dg_build.specs.declared.fault.BuildFault.TheVariants.{Memory, Wide}

-- the columns of events as they are written, with that of messages or without it
abbrev pub written_columns : Bool → Stored → Stored
written_columns messages s = record s { transient = if messages then s.transient else [] }

abbrev pub written_list : Bool → StoredList → StoredList
written_list messages x = record x { columns = written_columns messages x.columns }

-- the segment as it is written: the first form has no columns of messages
abbrev pub written_segment : Bool → Segment → Segment
written_segment true s = s
written_segment false s = record s { lists = map (written_list false) s.lists; piece = written_columns false s.piece }

-- a closed list of these events
abbrev pub stored_cut : Bool → List Event → StoredList
stored_cut messages events = record { first = first_time_of events; last = last_time_from 0 events; columns = written_columns messages (stored (Events events)) }

-- a set of the delta has more elements than its column can count
abbrev pub is_wide : Delta → Bool
is_wide d = nat_le (2 ^ 32) (length d.minus) || nat_le (2 ^ 32) (length d.plus)

-- the index of the first delta that is too wide, where those before these are so many
abbrev pub first_wide : ℕ → List Delta → Option ℕ
first_wide index [] = None
first_wide index (d ∷ deltas) = if is_wide d then Some index else first_wide (index + 1) deltas

-- why these deltas were not written behind so many others
abbrev pub IsFaultOfDeltas : ℕ → List Delta → BuildFault → Type 0
IsFaultOfDeltas index deltas Memory = Unit {0}
IsFaultOfDeltas index deltas (Wide at) = first_wide index deltas ≡ Some at

-- the fault names none but the first so many deltas of the segment
abbrev pub IsFaultBelow : ℕ → BuildFault → Type 0
IsFaultBelow count Memory = Unit {0}
IsFaultBelow count (Wide at) = at < count

-- the last time of the last of these rows that has times, where without one it is this
abbrev pub last_in_rows : ℕ → List Row → ℕ
last_in_rows t [] = t
last_in_rows t (r ∷ rows) = last_in_rows (last_or t r.ends) rows
