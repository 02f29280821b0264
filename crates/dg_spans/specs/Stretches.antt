-- In which record of an index an event stands, and which events of a history these are.
use Rattle.std.specs.Prelude.{◌≡◌, ℕ, ◌+◌, ◌-◌, ◌*◌, ◌<◌, ◌≤◌, List, Option, Some, if◌then◌else◌, drop, length, max, nat_lt, slice_get, take}
use Rattle.dg_graph.specs.declared.event.Event.{Event}
use Rattle.dg_history.specs.declared.node.Key.TheVariants as key
use Rattle.dg_history.specs.History.{History, events_of}
use Rattle.dg_index.specs.Hierarchy.{leaves}
use Rattle.dg_index.specs.ImageOfHistory.{IsImageOf}
use Rattle.dg_index.specs.OpenedIndex.{Opening, event_total}
use Rattle.dg_records.specs.declared.fault.RecordFault.{RecordFault}
use Rattle.dg_records.specs.declared.fault.RecordFault.TheVariants as fault
use Rattle.dg_spans.specs.declared.place.BatchPlace.{BatchPlace}
use Rattle.dg_start.specs.EventSources.{WhereTold}
use Rattle.dg_start.specs.RecentEvents.{Source}

-- the index has this batch at this number, behind so many events
pub record IsPlaced (o : Opening) (p : BatchPlace) : Type 0 where
  pub there : slice_get o.batches p.number ≡ Some p.batch
  pub counted : p.before + event_total (drop p.number o.batches) ≡ event_total o.batches

-- the event of this number is one of the batch
pub record HasEvent (p : BatchPlace) (at : ℕ) : Type 0 where
  pub behind : p.before ≤ at
  pub within : at < p.before + p.batch.events

-- how many events the closed lists have
abbrev pub closed_events : Opening → ℕ
closed_events o = leaves o.params (event_total o.batches) * o.params.l

-- The record that has the event of this number, which is one of the batch: a closed list where one has it, else the piece
-- of the batch.
abbrev pub record_of : Opening → BatchPlace → ℕ → Source
record_of o p at =
    if nat_lt at (closed_events o)
    then record { key = key.List (leaves o.params at); count = o.params.l; ends = p.batch.ends }
    else record { key = key.Piece p.number; count = p.before + p.batch.events - max p.before (closed_events o); ends = p.batch.ends }

-- the number of the first event of that record
abbrev pub record_start : Opening → BatchPlace → ℕ → ℕ
record_start o p at = if nat_lt at (closed_events o) then leaves o.params at * o.params.l else max p.before (closed_events o)

-- one of so many events, of which the first has the number `start`, has this number
pub record HasNumber (start count at : ℕ) : Type 0 where
  pub behind : start ≤ at
  pub within : at < start + count

-- the history has these events, one behind another, from the one of this number on
abbrev pub AreEventsFrom : History → ℕ → List Event → Type 0
AreEventsFrom z start events = take (length events) (drop start (events_of z)) ≡ events

-- the fact holds of each history that the image stands for, where it is told
abbrev pub WhereStands : Option (List ℕ) → (History → Type 0) → Type 0
WhereStands told P = WhereTold told (λ image. (z : History) → IsImageOf z image → P z)

-- a failure of the disk, or want of memory
abbrev pub IsOutside : RecordFault → Type 0
IsOutside fault.Disk = Unit {0}
IsOutside (fault.Damaged key col) = ⊥
IsOutside fault.Memory = Unit {0}
