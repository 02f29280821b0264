-- The events of a legal history: their times do not fall, each is a change where it stands, and their ids, names and keys are in
-- their ranges.
use Rattle.std.proofs.Common.{ℕ, List, [], ◌∷◌, ◌++◌, Some, length, map, sym, subst, append_assoc, append-nil}
use Rattle.std.specs.Prelude.{IsTrue}
use Rattle.std.specs.List.{All, flat_map}
use Rattle.std.proofs.lemmas.List.Elements.{All-append, All-nil}
use Rattle.dg_graph.specs.declared.event.Change.{Change}
use Rattle.dg_graph.specs.declared.event.Event.{Event}
use Rattle.dg_graph.specs.Completion.{has_key}
use Rattle.dg_graph.specs.MadeByChanges.{AreMadeByChanges}
use Rattle.dg_graph.specs.Replay.{replay}
use Rattle.dg_graph.proofs.Completions.{AllCome, all_come, made_come, made_joined}
use Rattle.dg_history.specs.EventTimes.{RisesFrom}
use Rattle.dg_history.specs.History.{Batch, History, earliest_next, events_of, last_time_from, names_of, span_of}
use Rattle.dg_history.specs.LegalHistory.{AreLegalAfter, FitsEvent, IsLegal, IsLegalBatch}
use Rattle.dg_history.proofs.EventTimes.{last_earliest, rises_come, rises_join, rises_later}

abbrev pub events_among : List Batch → List Event
events_among batches = flat_map (λ (b : Batch). b.events) batches

abbrev pub names_among : List Batch → List (List ℕ)
names_among batches = flat_map (λ (b : Batch). b.names) batches

-- ---- what holds of each batch

module _ (names : List (List ℕ)) (before : List Event) (b : Batch) (l : IsLegalBatch names before b) where
  batch_comes : AllCome (earliest_next (span_of before)) (replay before) (map (λ (c : Change). Some c) l.changes) b.events
  batch_comes = all_come 1 (earliest_next (span_of before)) (replay before) (map (λ (c : Change). Some c) l.changes) b.events l.comes

  batch_made : AreMadeByChanges (replay before) b.events
  batch_made = made_come (earliest_next (span_of before)) (replay before) (map (λ (c : Change). Some c) l.changes) b.events batch_comes

  pub batch_rises : RisesFrom (earliest_next (span_of before)) b.events
  batch_rises = rises_come (earliest_next (span_of before)) (replay before) (map (λ (c : Change). Some c) l.changes) b.events batch_comes

-- what holds of the events of each batch holds of all
each_among : (P : Event → Type 0) (names : List (List ℕ)) → ((before : List Event) (b : Batch) → IsLegalBatch names before b → All P b.events)
    → (before : List Event) (batches : List Batch) → AreLegalAfter names before batches → All P (events_among batches)
each_among P names each before [] l = All-nil P
each_among P names each before (b ∷ batches) l =
    All-append P b.events (events_among batches) (each before b l.0) (each_among P names each (before ++ b.events) batches l.1)

-- ---- what holds of the events of batches

pub all_fit : (names : List (List ℕ)) (before : List Event) (batches : List Batch) → AreLegalAfter names before batches → All (FitsEvent (length names)) (events_among batches)
all_fit names = each_among (FitsEvent (length names)) names (λ before b l. l.fits)

pub all_keys : (names : List (List ℕ)) (before : List Event) (batches : List Batch) → AreLegalAfter names before batches
    → All (λ (e : Event). IsTrue (has_key names e.body)) (events_among batches)
all_keys names = each_among (λ (e : Event). IsTrue (has_key names e.body)) names (λ before b l. l.keys)

batches_made : (names : List (List ℕ)) (before : List Event) (batches : List Batch) → AreMadeByChanges [] before → AreLegalAfter names before batches
    → AreMadeByChanges [] (before ++ events_among batches)
batches_made names before [] made l = subst (AreMadeByChanges []) (sym (append-nil before)) made
batches_made names before (b ∷ batches) made l =
    subst (AreMadeByChanges []) (append_assoc before b.events (events_among batches))
    (batches_made names (before ++ b.events) batches (made_joined [] before b.events made (batch_made names before b l.0)) l.1)

batches_rise : (names : List (List ℕ)) (before : List Event) (batches : List Batch) → RisesFrom 0 before → AreLegalAfter names before batches → RisesFrom 0 (before ++ events_among batches)
batches_rise names before [] rises l = subst (RisesFrom 0) (sym (append-nil before)) rises
batches_rise names before (b ∷ batches) rises l =
    let next = rises_later (last_time_from 0 before) (earliest_next (span_of before)) b.events (last_earliest before) (batch_rises names before b l.0) in
    subst (RisesFrom 0) (append_assoc before b.events (events_among batches)) (batches_rise names (before ++ b.events) batches (rises_join 0 before b.events rises next) l.1)

-- ---- and so of a legal history

pub events_made : (z : History) → IsLegal z → AreMadeByChanges [] (events_of z)
events_made z legal = batches_made (names_of z) [] z.batches tt legal.batches

pub events_rise : (z : History) → IsLegal z → RisesFrom 0 (events_of z)
events_rise z legal = batches_rise (names_of z) [] z.batches tt legal.batches
