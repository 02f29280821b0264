-- How the events of an index file are tested: after they were read, all at once.
use Rattle.std.specs.Prelude.{◌≡◌, ◌<◌, ◌≤◌, ◌+◌, ◌&&◌, ℕ, List, [], ◌∷◌, Option, Some, None, Result, Err, true, if◌then◌else◌, is_some, length, nat_le, nat_lt}
use Rattle.std.specs.List.{All}
use Rattle.dg_columns.specs.NamesInRange.{NamesFit}
use Rattle.dg_graph.specs.declared.element.Column.{Column}
use Rattle.dg_graph.specs.declared.element.Column.TheVariants as column
use Rattle.dg_graph.specs.declared.element.Element.{Element}
use Rattle.dg_graph.specs.declared.event.Event.{Event}
use Rattle.dg_graph.specs.declared.limits.TheConstants.{TIME_MAX}
use Rattle.dg_graph.specs.Completion.{completes}
use Rattle.dg_graph.specs.Effect.{forwards}
use Rattle.dg_history.specs.declared.node.Key.{Key}
use Rattle.dg_records.specs.EventNames.{EventNamesAreThere}
use Rattle.dg_verify.specs.declared.own_events.OwnEvents.{OwnEvents}
use Rattle.dg_verify.specs.declared.own_events.ReadRecord.{ReadRecord}
use Rattle.dg_verify.specs.declared.stop.Stop.{Stop}
use Rattle.dg_verify.specs.declared.stop.Stop.TheVariants as stop

-- how many of the events, from the first on, are what some change comes to after the set and the events before them,
-- and are not earlier than the time and than the event before them
abbrev pub followed : List (List ℕ) → List Element → ℕ → List Event → ℕ
followed names set time [] = 0
followed names set time (e ∷ events) =
    if completes names set e.body && nat_le time e.time then followed names (forwards set e) e.time events + 1 else 0

-- the key of the record that the event of this index stands in
abbrev pub key_at : List ReadRecord → ℕ → Option Key
key_at [] i = None
key_at (r ∷ records) i = if nat_lt i r.end then Some r.key else key_at records i

-- Each event that was read stands in a record. No record has more.
pub record AreRecorded (own : OwnEvents) : Type 0 where
  pub recorded : (i : ℕ) → i < length own.events.items → is_some (key_at own.records.items i) ≡ true
  pub none_behind : (i : ℕ) → length own.events.items ≤ i → key_at own.records.items i ≡ None

-- and each can be spelled, names what is there, where there are so many names, and is not later than the last instant
pub record IsRead (name_count : ℕ) (own : OwnEvents) : Type 0 where
  pub stand : AreRecorded own
  pub fit : All (λ (e : Event). NamesFit e.body) own.events.items
  pub named : EventNamesAreThere name_count own.events.items
  pub timed : All (λ (e : Event). e.time ≤ TIME_MAX) own.events.items

-- the record of the first event that may not stand behind those before it
abbrev pub first_unfit : List (List ℕ) → OwnEvents → Option Key
first_unfit names own = key_at own.records.items (followed names [] 0 own.events.items)

-- the record, if there is one, is not right; and else what follows
abbrev pub unless : {A : Type 0} → Option Key → Result A (Key × Column) → Result A (Key × Column)
unless None rest = rest
unless (Some k) rest = Err (k, column.Structure)

-- what follows behind the events that were read, where these may follow one another
abbrev pub tested : {A : Type 0} → List (List ℕ) → OwnEvents → Result A (Key × Column) → Result A (Key × Column)
tested names own rest = unless (first_unfit names own) rest

-- what stops says of the first record with such an event, if there is one
abbrev pub IsUnfit : Stop → Option Key → Type 0
IsUnfit (stop.Wrong k col) unfit = (unfit ≡ Some k) × (col ≡ column.Structure)
IsUnfit stop.Disk unfit = Unit {0}
IsUnfit stop.Memory unfit = Unit {0}

-- What stops says of a result: the record is the first that is not right, unless one of those that were read is not. Of a
-- failure and of want of memory nothing is said.
abbrev pub IsStopBehind : {A : Type 0} → List (List ℕ) → OwnEvents → Stop → Result A (Key × Column) → Type 0
IsStopBehind names own (stop.Wrong k col) due = due ≡ tested names own (Err (k, col))
IsStopBehind names own stop.Disk due = Unit {0}
IsStopBehind names own stop.Memory due = Unit {0}
