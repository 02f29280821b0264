-- What is read of a record, and why nothing is, as the definitions of sound files have it.
use Rattle.std.proofs.Common.{◌≡◌, ℕ, Bool, List, Option, Some, None, Result, Ok, Err, length, refl, sym, ◌∙◌, ap, subst}
use Rattle.std.specs.Option.{option_or}
use Rattle.dg_graph.specs.declared.element.Column.{Column}
use Rattle.dg_graph.specs.declared.element.Column.TheVariants as column
use Rattle.dg_graph.specs.declared.event.Event.{Event}
use Rattle.dg_graph.specs.declared.placed.Placed.{Placed}
use Rattle.dg_graph.specs.ColumnGrammar.{events_in as read_as_events}
use Rattle.dg_graph.specs.ColumnMerge.{merged}
use Rattle.dg_history.specs.declared.node.Key.{Key}
use Rattle.dg_index.specs.OpenedIndex.{Opening, column_at, entry_at}
use Rattle.dg_sound.specs.OwnEvents.{and_own, events_of_record, merged_or, spelled_or, with_record}
use Rattle.dg_records.specs.declared.fault.RecordFault.{RecordFault}
use Rattle.dg_records.specs.declared.fault.RecordFault.TheVariants as record_fault
use Rattle.dg_start.specs.declared.fault.StartFault.{StartFault}
use Rattle.dg_start.specs.declared.fault.StartFault.TheVariants as fault
use Rattle.dg_start.specs.Faults.{start_fault_of}
use Rattle.dg_start.specs.RecentEvents.{Source, and_start, events_in_source, merged_or_fault, spelled_or_fault}
use Rattle.dg_start.specs.Refusals.{IsReason}
use Rattle.dg_verify.specs.declared.stop.Stop.{Stop}
use Rattle.dg_verify.specs.declared.stop.Stop.TheVariants as stop
use Rattle.dg_verify.specs.Stops.{stop_of_record}
use Rattle.dg_verify.specs.Verification.{IsStop, IsWrong, keyed, keyed_column, opened_with}

-- a record that is not right, as a fault of starting
abbrev as_started : {A : Type 0} → Key → Result A Column → Result A StartFault
as_started k (Ok x) = Ok x
as_started k (Err col) = Err (fault.BadRecord k col)

then_read : (k : Key) (col : Column) (r : Result (List Placed) ℕ) (f : List Placed → Result (List Event) StartFault) (g : List Placed → Result (List Event) Column)
    → ((a : List Placed) → f a ≡ as_started k (g a)) → and_start (spelled_or_fault k col r) f ≡ as_started k (and_own (spelled_or col r) g)
then_read k col (Ok a) f g h = h a
then_read k col (Err offset) f g h = refl

then_merged : (k : Key) (m : Option (List Event)) → merged_or_fault k m ≡ as_started k (merged_or m)
then_merged k (Some events) = refl
then_merged k None = refl

-- the same events, or the same column
same_events : (image : List ℕ) (names : List (List ℕ)) (o : Opening) (s : Source)
    → events_in_source image (length names) o s ≡ as_started s.key (events_of_record image (opened_with o names) s.key s.count)
same_events image names o s =
    then_read s.key column.Structure (read_as_events column.Structure (length names) (column_at image (entry_at o s.key) column.Structure)) _ _ (λ a.
    then_read s.key column.NodeAttr (read_as_events column.NodeAttr (length names) (column_at image (entry_at o s.key) column.NodeAttr)) _ _ (λ b.
    then_read s.key column.EdgeAttr (read_as_events column.EdgeAttr (length names) (column_at image (entry_at o s.key) column.EdgeAttr)) _ _ (λ c.
    then_read s.key column.Transient (read_as_events column.Transient (length names) (column_at image (entry_at o s.key) column.Transient)) _ _ (λ d.
    then_merged s.key (merged a b c d s.count)))))

from_err : (f : RecordFault) (k : Key) (r : Result (List Event) Column) → IsReason (start_fault_of f) (as_started k r) → IsStop (stop_of_record f) (keyed k r)
from_err (record_fault.Damaged key col) k (Ok x) h = absurd cc
from_err (record_fault.Damaged key col) k (Err c) h = cc
from_err record_fault.Disk k r h = tt
from_err record_fault.Memory k r h = tt

from_ok : (k : Key) (r : Result (List Event) Column) (events : List Event) → as_started k r ≡ Ok events → r ≡ Ok events
from_ok k (Ok x) events h = (let same : x ≡ events = cc in ap (λ (es : List Event). Ok es) same)
from_ok k (Err c) events h = absurd cc

module _ (image : List ℕ) (names : List (List ℕ)) (o : Opening) (s : Source) (n : ℕ) (counted : n ≡ length names) where
  as_events : events_in_source image n o s ≡ as_started s.key (events_of_record image (opened_with o names) s.key s.count)
  as_events = ap (λ (m : ℕ). events_in_source image m o s) counted ∙ same_events image names o s

  pub events_refused : (f : RecordFault) → IsReason (start_fault_of f) (events_in_source image n o s) → IsStop (stop_of_record f) (keyed s.key (events_of_record image (opened_with o names) s.key s.count))
  events_refused f h = from_err f s.key (events_of_record image (opened_with o names) s.key s.count) (subst (λ (r : Result (List Event) StartFault). IsReason (start_fault_of f) r) as_events h)

  pub events_are : (events : List Event) → events_in_source image n o s ≡ Ok events → events_of_record image (opened_with o names) s.key s.count ≡ Ok events
  events_are events h = from_ok s.key (events_of_record image (opened_with o names) s.key s.count) events (sym as_events ∙ h)

-- ---- the record behind the events that were read

-- what stops a record stops what follows from it
pub record_stops : (x : Stop) (names : List (List ℕ)) (k : Key) (right : List Event → Bool) (before : List Event) (r : Result (List Event) Column)
    → IsStop x (keyed k r) → IsStop x (with_record names k right before r)
record_stops (stop.Wrong k' col) names k right before (Ok events) h = absurd cc
record_stops (stop.Wrong k' col) names k right before (Err c) h = h
record_stops stop.Disk names k right before r h = tt
record_stops stop.Memory names k right before r h = tt

-- ---- the columns of a record of events

-- what stops the first columns stops all
pub columns_stop : (s : Stop) (k : Key) (first last : Option Column) → IsWrong s (keyed_column k first) → IsWrong s (keyed_column k (option_or first last))
columns_stop (stop.Wrong key col) k None last h = absurd cc
columns_stop (stop.Wrong key col) k (Some c) last h = h
columns_stop stop.Disk k first last h = tt
columns_stop stop.Memory k first last h = tt
