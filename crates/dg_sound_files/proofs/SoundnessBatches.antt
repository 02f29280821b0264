-- The batches of the history of a file's own events.
use Rattle.std.proofs.Common.{◌≡◌, ℕ, ◌+◌, ◌≤◌, true, List, [], ◌∷◌, ◌++◌, length, take, drop, refl, sym, ap, subst, ◌∙◌, arith, length-drop}
use Rattle.std.specs.Prelude.{◌==◌}
use Rattle.std.specs.List.{flat_map}
use Rattle.std.proofs.lemmas.Bool.{eqb-true, and_parts}
use Rattle.std.proofs.lemmas.List.{take-append-drop, take_at, drop_at, drop-drop, length-take-le}
use Rattle.std.proofs.lemmas.List.Sums.{sum_by-cons}
use Rattle.dg_graph.specs.declared.event.Event.{Event}
use Rattle.dg_history.specs.History.{Batch, first_time_of}
use Rattle.dg_index.specs.OpenedIndex.{Directory, event_total}
use Rattle.dg_index.specs.declared.entry.BatchEntry.{BatchEntry}
use Rattle.dg_index.proofs.IndexRecordColumns.{Each}
use Rattle.dg_sound.specs.OwnEvents.{has_batch_ends}
use Rattle.dg_sound.specs.Soundness.{own_batches}
use Rattle.dg_sound_files.proofs.OpenedIndexDirectories.{batch_entries, new_names}
use Rattle.dg_sound_files.proofs.OpenedIndexSegments.{Agree}

nothing_left : {A : Type 0} (xs : List A) → length xs ≡ 0 → [] ≡ xs
nothing_left [] e = refl
nothing_left (x ∷ xs) e = absurd (omega (arith, e))

-- the events of the batches are the events that were cut
pub own_events_whole : (names : List (List ℕ)) (events : List Event) (batches : List BatchEntry) → length events ≡ event_total batches → flat_map (λ (b : Batch). b.events) (own_batches names events batches) ≡ events
own_events_whole names events [] len = nothing_left events len
own_events_whole names events (b ∷ batches) len =
    let sum : event_total (b ∷ batches) ≡ b.events + event_total batches = sum_by-cons (λ (b : BatchEntry). b.events) b batches in
    ap (λ (l : List Event). take b.events events ++ l) (own_events_whole (drop b.names names) (drop b.events events) batches (omega (arith, length-drop b.events events, len, sum))) ∙ take-append-drop b.events events

-- the directories count their names
abbrev pub IsNamed : Directory → Type 0
IsNamed d = d.batch.names ≡ length d.names

pub own_names_whole : (events : List Event) (ds : List Directory) → Each IsNamed ds → flat_map (λ (b : Batch). b.names) (own_batches (new_names ds) events (batch_entries ds)) ≡ new_names ds
own_names_whole events [] named = refl
own_names_whole events (d ∷ ds) named =
    let more = own_names_whole (drop d.batch.events events) ds named.1 in
    let front : take d.batch.names (d.names ++ new_names ds) ≡ d.names = take_at d.names (new_names ds) d.batch.names (sym named.0) in
    let rest : drop d.batch.names (d.names ++ new_names ds) ≡ new_names ds = drop_at d.names (new_names ds) d.batch.names (sym named.0) in
    (λ i. front i ++ flat_map (λ (b : Batch). b.names) (own_batches (rest i) (drop d.batch.events events) (batch_entries ds))) ∙ ap (λ (l : List (List ℕ)). d.names ++ l) more

-- the batches have the times of their events
abbrev pub HaveEnds : ℕ → List BatchEntry → List Event → Type 0
HaveEnds count [] events = Unit {0}
HaveEnds count (b ∷ more) events = (has_batch_ends count b events ≡ true) × HaveEnds (count + b.events) more events

pub own_agree : (count : ℕ) (events : List Event) (ds : List Directory) → Each IsNamed ds → count + event_total (batch_entries ds) ≤ length events → HaveEnds count (batch_entries ds) events
    → Agree ds (own_batches (new_names ds) (drop count events) (batch_entries ds))
own_agree count events [] named long ends = tt
own_agree count events (d ∷ ds) named long ends =
    let sum : event_total (batch_entries (d ∷ ds)) ≡ d.batch.events + event_total (batch_entries ds) = sum_by-cons (λ (b : BatchEntry). b.events) d.batch (batch_entries ds) in
    let front : take d.batch.names (d.names ++ new_names ds) ≡ d.names = take_at d.names (new_names ds) d.batch.names (sym named.0) in
    let rest : drop d.batch.names (d.names ++ new_names ds) ≡ new_names ds = drop_at d.names (new_names ds) d.batch.names (sym named.0) in
    let t = and_parts (d.batch.ends.first == first_time_of (take d.batch.events (drop count events))) _ ends.0 in
    let more = own_agree (count + d.batch.events) events ds named.1 (omega (arith, long, sum)) ends.1 in
    let cut : drop d.batch.events (drop count events) ≡ drop (count + d.batch.events) events = drop-drop d.batch.events count events in (
      record {
        events = sym (length-take-le d.batch.events (drop count events) (omega (arith, length-drop count events, long, sum)));
        first = eqb-true _ _ t.0;
        last = eqb-true _ _ t.1;
        names = sym front;
      },
      subst (λ (l : List (List ℕ)). Agree ds (own_batches l (drop d.batch.events (drop count events)) (batch_entries ds))) (sym rest)
          (subst (λ (l : List Event). Agree ds (own_batches (new_names ds) l (batch_entries ds))) (sym cut) more),
    )
