-- An image of a history is sound, and the history of its own events is that one.
use Rattle.std.proofs.Common.{◌≡◌, ℕ, List, [], ◌∷◌, Some, length, map, refl, ◌∙◌, ap}
use Rattle.std.specs.List.{flat_map}
use Rattle.std.proofs.lemmas.List.{drop_at, take_at}
use Rattle.dg_columns.specs.ColumnLaws.{EventsAreReadBack, EventsAreMergedBack}
use Rattle.dg_graph.specs.declared.event.Event.{Event}
use Rattle.dg_history.specs.History.{History, Batch, events_of}
use Rattle.dg_history.specs.LegalHistory.{IsLegal}
use Rattle.dg_index.specs.FileLaws.{ColumnsAreKept}
use Rattle.dg_index.specs.OpenedIndex.{opened_of}
use Rattle.dg_index.proofs.RecentEventPieces.{batches_of, noted}
use Rattle.dg_sound_files.specs.SoundFiles.{StandingFilesAreSound}
use Rattle.dg_sound.specs.Soundness.{delta_keys, first_wrong, history_of, if_read, judged_events, own_batches, record_total, sound_unless}
use Rattle.dg_sound_files.proofs.SoundnessDeltas.{deltas_right}
use Rattle.dg_sound_files.proofs.OpenedIndexRecords.{count_is, form_is, names_are, params_are}
use Rattle.dg_sound_files.proofs.OwnEventPieces.{all_read}

-- the names and the events of some batches, cut as these are, are the batches
batches_cut : (batches : List Batch) → own_batches (flat_map (λ (b : Batch). b.names) batches) (flat_map (λ (b : Batch). b.events) batches) (map noted batches) ≡ batches
batches_cut [] = refl
batches_cut (b ∷ more) =
    let names : List (List ℕ) = flat_map (λ (b : Batch). b.names) more in
    let events : List Event = flat_map (λ (b : Batch). b.events) more in
    (λ i. record { names = take_at b.names names (length b.names) refl i; events = take_at b.events events (length b.events) refl i }
    ∷ own_batches (drop_at b.names names (length b.names) refl i) (drop_at b.events events (length b.events) refl i) (map noted more))
    ∙ ap (λ (l : List Batch). b ∷ l) (batches_cut more)

own_is : (z : History) → IsLegal z → history_of (opened_of z) (events_of z) ≡ z
own_is z legal =
    (λ i. record { params = params_are z i; form = form_is z legal i; batches = own_batches (names_are z i) (events_of z) (batches_of z i) })
    ∙ ap (λ (l : List Batch). record { params = z.params; form = z.form; batches = l }) (batches_cut z.batches)

pub standing_files_are_sound : ColumnsAreKept → EventsAreReadBack → EventsAreMergedBack → StandingFilesAreSound
standing_files_are_sound kept back merge z image h =
    let read = all_read kept back merge z image h in (
      ap (if_read (opened_of z)) read ∙ ap (λ (y : History). Some y) (own_is z h.legal),
      ap (judged_events image (opened_of z)) read
          ∙ (λ i. sound_unless (record_total (params_are z i) (count_is z i)) (first_wrong image (opened_of z) (events_of z) (delta_keys (params_are z i) (count_is z i))))
          ∙ ap (sound_unless (record_total z.params (length (events_of z)))) (deltas_right kept z image h),
      read,
    )
