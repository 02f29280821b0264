-- How an index file is verified: what is known of the events that were read, what a comparison finds, and what a stop
-- says.
use Rattle.std.specs.Option.{option_or}
use Rattle.std.specs.Prelude.{◌≡◌, ℕ, ◌*◌, List, Option, Some, None, Result, Ok, Err, bytes_eq, length, max, if◌then◌else◌}
use Rattle.dg_graph.specs.declared.element.Column.{Column}
use Rattle.dg_graph.specs.declared.element.Column.TheVariants as column
use Rattle.dg_graph.specs.declared.event.Event.{Event}
use Rattle.dg_history.specs.declared.node.Key.{Key}
use Rattle.dg_index.specs.FileOfHistory.{Stored}
use Rattle.dg_index.specs.OpenedIndex.{Opened, Opening, column_at, entry_at}
use Rattle.dg_sound.specs.declared.soundness.Soundness.{Soundness}
use Rattle.dg_sound.specs.declared.soundness.Soundness.TheVariants.{Unsound}
use Rattle.dg_sound.specs.OwnEvents.{list_total}
use Rattle.dg_sound.specs.Soundness.{or_later}
use Rattle.dg_verify.specs.declared.stop.Stop.{Stop}
use Rattle.dg_verify.specs.declared.stop.Stop.TheVariants as stop

abbrev pub opened_with : Opening → List (List ℕ) → Opened
opened_with o names = record { index = o; names = names }

-- ---- what was read

-- there are as many events as all lists have, or as stand before a batch, where these are more
abbrev pub AreSoFar : Opening → ℕ → List Event → Type 0
AreSoFar o count events = length events ≡ max (list_total o * o.params.l) count

-- ---- why it stops

-- what stops says of a result: the record is the one that is not right. Of a failure and of want of memory nothing is
-- said.
abbrev pub IsStop : {A : Type 0} → Stop → Result A (Key × Column) → Type 0
IsStop (stop.Wrong k col) due = due ≡ Err (k, col)
IsStop stop.Disk due = Unit {0}
IsStop stop.Memory due = Unit {0}

-- the same of a record that is not right, if there is one
abbrev pub IsWrong : Stop → Option (Key × Column) → Type 0
IsWrong (stop.Wrong k col) due = due ≡ Some (k, col)
IsWrong stop.Disk due = Unit {0}
IsWrong stop.Memory due = Unit {0}

-- the same of the answer
abbrev pub IsUnsound : Stop → Soundness → Type 0
IsUnsound (stop.Wrong k col) due = due ≡ Unsound k col
IsUnsound stop.Disk due = Unit {0}
IsUnsound stop.Memory due = Unit {0}

-- a column that is not right, as one of the record
abbrev pub keyed : {A : Type 0} → Key → Result A Column → Result A (Key × Column)
keyed k (Ok x) = Ok x
keyed k (Err col) = Err (k, col)

abbrev pub keyed_column : Key → Option Column → Option (Key × Column)
keyed_column k found = or_later k found None

-- ---- comparing

-- the first column of the record that is none of these, but for that of messages
abbrev pub unlike : List ℕ → Opening → Key → Stored → Option Column
unlike image o k due =
    if bytes_eq (column_at image (entry_at o k) column.Structure) due.structure
    then (if bytes_eq (column_at image (entry_at o k) column.NodeAttr) due.node_attrs
    then (if bytes_eq (column_at image (entry_at o k) column.EdgeAttr) due.edge_attrs then None else Some column.EdgeAttr)
    else Some column.NodeAttr)
    else Some column.Structure

-- and of a record of events, which may have messages
abbrev pub unlike_events : List ℕ → Opening → Key → Stored → Option Column
unlike_events image o k due =
    option_or (unlike image o k due)
    (if bytes_eq (column_at image (entry_at o k) column.Transient) due.transient then None else Some column.Transient)
