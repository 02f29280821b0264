-- The history of a sound image's own events is legal.
use Rattle.std.proofs.Common.{◌≡◌, ℕ, ◌+◌, ◌≤◌, true, List, [], ◌∷◌, ◌++◌, length, sym, ap, subst, ◌∙◌, arith}
use Rattle.std.specs.Prelude.{All, IsTrue, nat_le}
use Rattle.std.proofs.lemmas.Bool.{leb-true, and_parts}
use Rattle.std.proofs.lemmas.List.Elements.{All-cons, All-nil}
use Rattle.dg_graph.specs.declared.event.Event.{Event}
use Rattle.dg_graph.specs.Completion.{has_key}
use Rattle.dg_graph.specs.Replay.{replay}
use Rattle.dg_graph.proofs.ExactEvents.{replay_append}
use Rattle.dg_history.specs.declared.limits.TheConstants.{BATCH_LINES_MAX, EVENTS_MAX}
use Rattle.dg_history.specs.History.{Batch, earliest_next, first_time_of, last_time_from, span_of}
use Rattle.dg_history.specs.LegalHistory.{AreLegalAfter, FitsEvent}
use Rattle.dg_history.proofs.EventTimes.{earliest_behind, last_two}
use Rattle.dg_history.proofs.LegalHistories.{events_among}
use Rattle.dg_index.specs.OpenedIndex.{Directory}
use Rattle.dg_index.proofs.IndexRecordColumns.{Each}
use Rattle.dg_sound.specs.OwnEvents.{are_completions}
use Rattle.dg_sound_files.proofs.OpenedIndexBatches.{AllFollow}
use Rattle.dg_sound_files.proofs.CompletedChangeEvents.{StartsFrom, changes_come, keys_of_completions}
use Rattle.dg_sound_files.proofs.OwnEventsRead.{completions_append}
use Rattle.dg_sound_files.proofs.OpenedIndexDirectories.{batch_entries}
use Rattle.dg_sound_files.proofs.EachParts.{each_parts}
use Rattle.dg_sound_files.proofs.OpenedIndexSegments.{Agree}

all_of : (P : Event → Type 0) (events : List Event) → Each P events → All P events
all_of P [] e = All-nil P
all_of P (x ∷ events) e = All-cons P x events e.0 (all_of P events e.1)

starts_from : (earliest : ℕ) (events : List Event) → earliest ≤ first_time_of events → StartsFrom earliest events
starts_from earliest [] le = tt
starts_from earliest (e ∷ events) le = le

module _ (names : List (List ℕ)) where
  pub legal_after : (ds : List Directory) (left : List Batch) (count : ℕ) (before : List Event) → Agree ds left → AllFollow count (earliest_next (span_of before)) (batch_entries ds)
      → are_completions names (replay before) (last_time_from 0 before) (events_among left) ≡ true → Each (FitsEvent (length names)) (events_among left) → AreLegalAfter names before left
  legal_after [] [] count before agree follow come fit = tt
  legal_after [] (b ∷ left) count before agree follow come fit = absurd agree
  legal_after (d ∷ ds) [] count before agree follow come fit = absurd agree
  legal_after (d ∷ ds) (b ∷ left) count before agree follow come fit =
      let counts = agree.0 in
      let f1 = and_parts (nat_le 1 d.batch.events) _ follow.0 in
      let f2 = and_parts (nat_le d.batch.events BATCH_LINES_MAX) _ f1.1 in
      let f3 = and_parts (nat_le (count + d.batch.events) EVENTS_MAX) _ f2.1 in
      let f4 = and_parts (nat_le (earliest_next (span_of before)) d.batch.ends.first) _ f3.1 in
      let some : 1 ≤ length b.events = omega (arith, leb-true _ _ f1.0, counts.events) in
      let few : length b.events ≤ BATCH_LINES_MAX = omega (arith, leb-true d.batch.events BATCH_LINES_MAX f2.0, counts.events) in
      let later : earliest_next (span_of before) ≤ first_time_of b.events = omega (arith, leb-true (earliest_next (span_of before)) d.batch.ends.first f4.0, counts.first) in
      let c = and_parts (are_completions names (replay before) (last_time_from 0 before) b.events) _ (sym (completions_append names (replay before) (last_time_from 0 before) b.events (events_among left)) ∙ come) in
      let made = changes_come names 1 (earliest_next (span_of before)) (last_time_from 0 before) (replay before) b.events (starts_from (earliest_next (span_of before)) b.events later) c.0 in
      let parts = each_parts (FitsEvent (length names)) b.events (events_among left) fit in
      let keys = keys_of_completions names (last_time_from 0 before) (replay before) b.events c.0 in
      let next : d.batch.ends.last + 1 ≡ earliest_next (span_of (before ++ b.events)) = ap (λ n. n + 1) counts.last ∙ sym (earliest_behind before b.events some) in
      let come_next : are_completions names (replay (before ++ b.events)) (last_time_from 0 (before ++ b.events)) (events_among left) ≡ true =
      (λ i. are_completions names (replay_append [] before b.events i) (last_two 0 before b.events i) (events_among left)) ∙ c.1 in (
        record {
          some = some;
          few = few;
          changes = made.0;
          comes = made.1;
          fits = all_of (FitsEvent (length names)) b.events parts.0;
          keys = all_of (λ (e : Event). IsTrue (has_key names e.body)) b.events keys;
        },
        legal_after ds left (count + d.batch.events) (before ++ b.events) agree.1 (subst (λ t. AllFollow (count + d.batch.events) t (batch_entries ds)) next follow.1) come_next parts.1,
      )
