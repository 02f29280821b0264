-- What an index file is, by what was read and compared.
use Rattle.std.proofs.Common.{◌≡◌, ℕ, ◌+◌, ◌<◌, List, [], Option, Some, None, Result, Ok, length, map, filter, sym, ◌∙◌, ap, subst}
use Rattle.dg_graph.specs.declared.element.Column.{Column}
use Rattle.dg_graph.specs.declared.event.Event.{Event}
use Rattle.dg_history.specs.declared.node.Key.{Key}
use Rattle.dg_index.specs.FileOfHistory.{Stored, stored}
use Rattle.dg_index.specs.Hierarchy.{leaves}
use Rattle.dg_index.specs.IndexRecords.{deltas_due, record_among}
use Rattle.dg_index.specs.OpenedIndex.{Opened, event_total}
use Rattle.dg_sound.specs.declared.soundness.Soundness.TheVariants.{Sound}
use Rattle.dg_sound.specs.OwnEvents.{own_events}
use Rattle.dg_sound.specs.Soundness.{first_wrong, judged_events, record_total, sound_unless, soundness_of}
use Rattle.dg_verify.specs.declared.deltas.DeltaKind.{DeltaKind}
use Rattle.dg_verify.specs.declared.deltas.DeltaKind.TheVariants as delta
use Rattle.dg_verify.specs.declared.own_events.OwnEvents.{OwnEvents}
use Rattle.dg_verify.specs.declared.stop.Stop.{Stop}
use Rattle.dg_verify.specs.declared.stop.Stop.TheVariants as stop
use Rattle.dg_verify.specs.Deltas.{first_unlike, has_kind}
use Rattle.dg_verify.specs.EventTests.{IsUnfit, first_unfit, tested}
use Rattle.dg_verify.specs.Verification.{IsStop, IsUnsound, IsWrong}
use Rattle.dg_verify.proofs.DeltaKeys.{or_behind, total_is, wrong_by_kinds, wrong_of_kind}
use Rattle.dg_verify.proofs.EventTestRecords.{unfit_stops}

unsound_so : (image : List ℕ) (x : Opened) (s : Stop) (r : Result (List Event) (Key × Column)) → IsStop s r → IsUnsound s (judged_events image x r)
unsound_so image x (stop.Wrong k col) r h = ap (judged_events image x) h
unsound_so image x stop.Disk r h = tt
unsound_so image x stop.Memory r h = tt

unsound_unless : (s : Stop) (total : ℕ) (wrong : Option (Key × Column)) → IsWrong s wrong → IsUnsound s (sound_unless total wrong)
unsound_unless (stop.Wrong k col) total wrong h = ap (sound_unless total) h
unsound_unless stop.Disk total wrong h = tt
unsound_unless stop.Memory total wrong h = tt

first_or_behind : (s : Stop) (first later : Option (Key × Column)) → IsWrong s first → IsWrong s (or_behind first later)
first_or_behind (stop.Wrong k col) None later h = absurd cc
first_or_behind (stop.Wrong k col) (Some wrong) later h = h
first_or_behind stop.Disk first later h = tt
first_or_behind stop.Memory first later h = tt

module _ (image : List ℕ) (x : Opened) where
  -- a record of events is not right
  pub own_unsound : (s : Stop) → IsStop s (own_events image x) → IsUnsound s (soundness_of image x)
  own_unsound s h = unsound_so image x s (own_events image x) h

  pub unfit_unsound : (s : Stop) (own : OwnEvents) → own_events image x ≡ tested x.names own (Ok own.events.items) → IsUnfit s (first_unfit x.names own) → IsUnsound s (soundness_of image x)
  unfit_unsound s own is h = own_unsound s (subst (λ t. IsStop s t) (sym is) (unfit_stops s x.names own (Ok own.events.items) h))

  module _ (events : List Event) (read : own_events image x ≡ Ok events) (wide : 0 < x.index.params.k)
      (keys : List Key) (due : List Stored) (many : length events ≡ event_total x.index.batches)
      (keys_are : keys ≡ deltas_due x.index.params.k 0 (leaves x.index.params (length events)))
      (due_are : due ≡ map (λ k. stored (record_among x.index.params events [] k)) keys) where
    all_keys : keys ≡ deltas_due x.index.params.k 0 (leaves x.index.params (event_total x.index.batches))
    all_keys = keys_are ∙ ap (λ m. deltas_due x.index.params.k 0 (leaves x.index.params m)) many

    of_kind : (kind : DeltaKind) → first_unlike image x.index kind keys due
        ≡ first_wrong image x events (filter (has_kind kind) (deltas_due x.index.params.k 0 (leaves x.index.params (event_total x.index.batches))))
    of_kind kind =
        ap (first_unlike image x.index kind keys) due_are ∙ wrong_of_kind image x events kind keys
        ∙ ap (λ (ks : List Key). first_wrong image x events (filter (has_kind kind) ks)) all_keys

    by_kinds : soundness_of image x
        ≡ sound_unless (record_total x.index.params (event_total x.index.batches)) (or_behind (first_unlike image x.index delta.Top keys due) (first_unlike image x.index delta.Down keys due))
    by_kinds =
        ap (judged_events image x) read
        ∙ ap (sound_unless (record_total x.index.params (event_total x.index.batches)))
        (wrong_by_kinds image x events (event_total x.index.batches) wide ∙ (λ i. or_behind (sym (of_kind delta.Top) i) (sym (of_kind delta.Down) i)))

    pub tops_unsound : (s : Stop) → IsWrong s (first_unlike image x.index delta.Top keys due) → IsUnsound s (soundness_of image x)
    tops_unsound s h =
        subst (λ t. IsUnsound s t) (sym by_kinds)
        (unsound_unless s (record_total x.index.params (event_total x.index.batches)) (or_behind (first_unlike image x.index delta.Top keys due) (first_unlike image x.index delta.Down keys due))
        (first_or_behind s (first_unlike image x.index delta.Top keys due) (first_unlike image x.index delta.Down keys due) h))

    module _ (no_top : first_unlike image x.index delta.Top keys due ≡ None) where
      by_downs : soundness_of image x ≡ sound_unless (record_total x.index.params (event_total x.index.batches)) (first_unlike image x.index delta.Down keys due)
      by_downs = by_kinds ∙ ap (λ o. sound_unless (record_total x.index.params (event_total x.index.batches)) (or_behind o (first_unlike image x.index delta.Down keys due))) no_top

      pub downs_unsound : (s : Stop) → IsWrong s (first_unlike image x.index delta.Down keys due) → IsUnsound s (soundness_of image x)
      downs_unsound s h =
          subst (λ t. IsUnsound s t) (sym by_downs) (unsound_unless s (record_total x.index.params (event_total x.index.batches)) (first_unlike image x.index delta.Down keys due) h)

      pub all_sound : (total : ℕ) → first_unlike image x.index delta.Down keys due ≡ None → total ≡ leaves x.index.params (event_total x.index.batches) + length keys
          → soundness_of image x ≡ Sound total
      all_sound total no_down is =
          by_downs ∙ ap (sound_unless (record_total x.index.params (event_total x.index.batches))) no_down
          ∙ ap (λ m. Sound m) (sym (total_is x.index.params (event_total x.index.batches) total wide (is ∙ ap (λ (ks : List Key). leaves x.index.params (event_total x.index.batches) + length ks) all_keys)))
