use Rattle.std.proofs.Common.{◌≡◌, ℕ, ◌+◌, List, [], Some, Ok, None, filter, length, map, ◌∙◌, arith}
use Rattle.dg_graph.specs.declared.event.Event.{Event}
use Rattle.dg_history.specs.declared.node.Key.{Key}
use Rattle.dg_history.proofs.ParameterRanges.{in_range}
use Rattle.dg_index.specs.FileOfHistory.{Stored, stored}
use Rattle.dg_index.specs.Hierarchy.{leaves}
use Rattle.dg_index.specs.IndexRecords.{deltas_due, record_among}
use Rattle.dg_index.specs.OpenedIndex.{Opening, event_total}
use Rattle.dg_sound.specs.OwnEvents.{own_events}
use Rattle.dg_sound.specs.Soundness.{soundness_of}
use Rattle.dg_start.specs.EventSources.{WhereTold}
use Rattle.dg_start.proofs.EventSourceOutcomes.{err_is, said_before}
use Rattle.dg_verify.specs.declared.deltas.DeltaKind.TheVariants as delta
use Rattle.dg_verify.specs.declared.own_events.OwnEvents.{OwnEvents}
use Rattle.dg_verify.specs.declared.stop.Stop.{Stop}
use Rattle.dg_verify.specs.Deltas.{first_unlike, has_kind}
use Rattle.dg_verify.specs.RecordBytes.{columns_bytes, records_bytes}
use Rattle.dg_verify.specs.Verification.{IsUnsound, IsWrong, opened_with}
use Rattle.dg_verify.proofs.EventTestRecords.{all_tested}
use Rattle.dg_verify.proofs.RecordReads.{downs_within, events_bytes, told_part, told_then, tops_within}
use Rattle.dg_verify.proofs.VerificationOutcomes.{all_sound, downs_unsound, tops_unsound}
use Rattle.dg_verify.proofs.verification.compare_all.Goals as goal

pub returns-in_err-compare_deltas-clause-stopped : goal.returns-in_err-compare_deltas-clause-stopped
returns-in_err-compare_deltas-clause-stopped g c =
    let o : Opening = c.args.index.now.opening in
    let names = c.args.names.now in
    let x = opened_with o names in
    let told = g.D.Disk.image c.args.disk.now in
    let range = in_range o.params.l o.params.k c.facts.ensures.parameters in
    let own : OwnEvents = c.read_all.new.own in
    let events : List Event = own.events.items in
    let keys : List Key = c.in_ok-due.due.keys.items in
    let due : List Stored = c.in_ok-due.due.segment.deltas in
    let image_same = c.read_all.ensures.disk.same_image in
    let many : length events ≡ event_total o.batches = c.in_default.ensures.many in
    let keys_are : keys ≡ deltas_due o.params.k 0 (leaves o.params (length events)) =
    c.in_ok-due.ensures.keys ∙ (λ j. deltas_due (c.params.ensures j).k 0 (leaves (c.params.ensures j) (length events))) in
    let due_are : due ≡ map (λ k. stored (record_among o.params events [] k)) keys =
    c.in_ok-due.ensures.deltas ∙ (λ j. map (λ k. stored (record_among (c.params.ensures j) events [] k)) keys) in
    let read : (image : List ℕ) → told ≡ Some image → own_events image x ≡ Ok events =
    λ image h. c.in_default.ensures.own image h ∙ all_tested names own c.in_default.ensures.read c.in_ok-due.ensures.fit (Ok events) in
    let s : Stop = c.in_err-compare_deltas.field-0.0 in
    err_is c.from_residual-in_err-compare_deltas.result s (λ (s : Stop). WhereTold told (λ image. IsUnsound s (soundness_of image x))) c.from_residual-in_err-compare_deltas.ensures
    (λ image h. tops_unsound image x events (read image h) range.arity_some keys due many keys_are due_are s
    (said_before (g.D.Disk.image c.read_all.new.disk) told (λ image. IsWrong s (first_unlike image o delta.Top keys due))
    image_same c.in_err-compare_deltas.ensures.stopped image h))

pub returns-in_err-compare_deltas-2-clause-stopped : goal.returns-in_err-compare_deltas-2-clause-stopped
returns-in_err-compare_deltas-2-clause-stopped g c =
    let o : Opening = c.args.index.now.opening in
    let names = c.args.names.now in
    let x = opened_with o names in
    let told = g.D.Disk.image c.args.disk.now in
    let range = in_range o.params.l o.params.k c.facts.ensures.parameters in
    let own : OwnEvents = c.read_all.new.own in
    let events : List Event = own.events.items in
    let keys : List Key = c.in_ok-due.due.keys.items in
    let due : List Stored = c.in_ok-due.due.segment.deltas in
    let image_same = c.read_all.ensures.disk.same_image in
    let many : length events ≡ event_total o.batches = c.in_default.ensures.many in
    let keys_are : keys ≡ deltas_due o.params.k 0 (leaves o.params (length events)) =
    c.in_ok-due.ensures.keys ∙ (λ j. deltas_due (c.params.ensures j).k 0 (leaves (c.params.ensures j) (length events))) in
    let due_are : due ≡ map (λ k. stored (record_among o.params events [] k)) keys =
    c.in_ok-due.ensures.deltas ∙ (λ j. map (λ k. stored (record_among (c.params.ensures j) events [] k)) keys) in
    let read : (image : List ℕ) → told ≡ Some image → own_events image x ≡ Ok events =
    λ image h. c.in_default.ensures.own image h ∙ all_tested names own c.in_default.ensures.read c.in_ok-due.ensures.fit (Ok events) in
    let then_image = c.compare_deltas.ensures.disk.same_image ∙ image_same in
    let no_top = said_before (g.D.Disk.image c.read_all.new.disk) told (λ image. first_unlike image o delta.Top keys due ≡ None)
    image_same c.in_ok-compare_deltas.ensures.alike in
    let s : Stop = c.in_err-compare_deltas-2.field-0.0 in
    err_is c.from_residual-in_err-compare_deltas-2.result s (λ (s : Stop). WhereTold told (λ image. IsUnsound s (soundness_of image x))) c.from_residual-in_err-compare_deltas-2.ensures
    (λ image h. downs_unsound image x events (read image h) range.arity_some keys due many keys_are due_are (no_top image h) s
    (said_before (g.D.Disk.image c.compare_deltas.new.disk) told (λ image. IsWrong s (first_unlike image o delta.Down keys due))
    then_image c.in_err-compare_deltas-2.ensures.stopped image h))

pub returns-clause-sound : goal.returns-clause-sound
returns-clause-sound g c =
    let o : Opening = c.args.index.now.opening in
    let names = c.args.names.now in
    let x = opened_with o names in
    let told = g.D.Disk.image c.args.disk.now in
    let range = in_range o.params.l o.params.k c.facts.ensures.parameters in
    let own : OwnEvents = c.read_all.new.own in
    let events : List Event = own.events.items in
    let keys : List Key = c.in_ok-due.due.keys.items in
    let due : List Stored = c.in_ok-due.due.segment.deltas in
    let image_same = c.read_all.ensures.disk.same_image in
    let many : length events ≡ event_total o.batches = c.in_default.ensures.many in
    let keys_are : keys ≡ deltas_due o.params.k 0 (leaves o.params (length events)) =
    c.in_ok-due.ensures.keys ∙ (λ j. deltas_due (c.params.ensures j).k 0 (leaves (c.params.ensures j) (length events))) in
    let due_are : due ≡ map (λ k. stored (record_among o.params events [] k)) keys =
    c.in_ok-due.ensures.deltas ∙ (λ j. map (λ k. stored (record_among (c.params.ensures j) events [] k)) keys) in
    let read : (image : List ℕ) → told ≡ Some image → own_events image x ≡ Ok events =
    λ image h. c.in_default.ensures.own image h ∙ all_tested names own c.in_default.ensures.read c.in_ok-due.ensures.fit (Ok events) in
    let then_image = c.compare_deltas.ensures.disk.same_image ∙ image_same in
    let no_top = said_before (g.D.Disk.image c.read_all.new.disk) told (λ image. first_unlike image o delta.Top keys due ≡ None)
    image_same c.in_ok-compare_deltas.ensures.alike in
    let no_down = said_before (g.D.Disk.image c.compare_deltas.new.disk) told (λ image. first_unlike image o delta.Down keys due ≡ None)
    then_image c.in_ok-compare_deltas-2.ensures.alike in
    let lists : c.from-lists.result ≡ leaves o.params (event_total o.batches) =
    c.from-lists.ensures ∙ c.leaves.ensures.leaves
    ∙ (λ j. leaves (c.params-2.ensures j) (c.events_len.ensures.events j)) in
    λ image h. all_sound image x events (read image h) range.arity_some keys due many keys_are due_are (no_top image h)
    (c.from-lists.result + c.len.result) (no_down image h) (omega (arith, lists, c.len.ensures, c.in_ok-due.due.keys.ok))

pub returns-in_err-compare_deltas-clause-takes : goal.returns-in_err-compare_deltas-clause-takes
returns-in_err-compare_deltas-clause-takes g c =
    let o : Opening = c.args.index.now.opening in
    let told = g.D.Disk.image c.args.disk.now in
    let range = in_range o.params.l o.params.k c.facts.ensures.parameters in
    let events : List Event = c.read_all.new.own.events.items in
    let keys : List Key = c.in_ok-due.due.keys.items in
    let image_same = c.read_all.ensures.disk.same_image in
    let many : length events ≡ event_total o.batches = c.in_default.ensures.many in
    let keys_are : keys ≡ deltas_due o.params.k 0 (leaves o.params (event_total o.batches)) =
    c.in_ok-due.ensures.keys ∙ (λ j. deltas_due (c.params.ensures j).k 0 (leaves (c.params.ensures j) (many j))) in
    let start = g.D.Disk.taken c.args.disk.now in
    let read = g.D.Disk.taken c.read_all.new.disk in
    let topped = g.D.Disk.taken c.compare_deltas.new.disk in
    let tops = columns_bytes o (filter (has_kind delta.Top) keys) in
    let with_tops = told_then told (g.D.Disk.image c.read_all.new.disk) (columns_bytes o (filter (has_kind delta.Top) keys)) (events_bytes o) start read topped
    image_same c.read_all.ensures.takes c.compare_deltas.ensures.takes in
    told_part told (events_bytes o + tops) (records_bytes o) start topped (tops_within o range.arity_some keys keys_are) with_tops

pub returns-in_err-compare_deltas-2-clause-takes : goal.returns-in_err-compare_deltas-2-clause-takes
returns-in_err-compare_deltas-2-clause-takes g c =
    let o : Opening = c.args.index.now.opening in
    let told = g.D.Disk.image c.args.disk.now in
    let range = in_range o.params.l o.params.k c.facts.ensures.parameters in
    let events : List Event = c.read_all.new.own.events.items in
    let keys : List Key = c.in_ok-due.due.keys.items in
    let image_same = c.read_all.ensures.disk.same_image in
    let many : length events ≡ event_total o.batches = c.in_default.ensures.many in
    let keys_are : keys ≡ deltas_due o.params.k 0 (leaves o.params (event_total o.batches)) =
    c.in_ok-due.ensures.keys ∙ (λ j. deltas_due (c.params.ensures j).k 0 (leaves (c.params.ensures j) (many j))) in
    let start = g.D.Disk.taken c.args.disk.now in
    let read = g.D.Disk.taken c.read_all.new.disk in
    let topped = g.D.Disk.taken c.compare_deltas.new.disk in
    let tops = columns_bytes o (filter (has_kind delta.Top) keys) in
    let with_tops = told_then told (g.D.Disk.image c.read_all.new.disk) (columns_bytes o (filter (has_kind delta.Top) keys)) (events_bytes o) start read topped
    image_same c.read_all.ensures.takes c.compare_deltas.ensures.takes in
    let downed = g.D.Disk.taken c.compare_deltas-2.new.disk in
    told_part told (events_bytes o + tops + columns_bytes o (filter (has_kind delta.Down) keys)) (records_bytes o) start downed (downs_within o range.arity_some keys keys_are)
    (told_then told (g.D.Disk.image c.compare_deltas.new.disk) (columns_bytes o (filter (has_kind delta.Down) keys)) (events_bytes o + tops) start topped downed
    (c.compare_deltas.ensures.disk.same_image ∙ image_same) with_tops c.compare_deltas-2.ensures.takes)

pub returns-clause-takes : goal.returns-clause-takes
returns-clause-takes g c =
    let o : Opening = c.args.index.now.opening in
    let told = g.D.Disk.image c.args.disk.now in
    let range = in_range o.params.l o.params.k c.facts.ensures.parameters in
    let events : List Event = c.read_all.new.own.events.items in
    let keys : List Key = c.in_ok-due.due.keys.items in
    let image_same = c.read_all.ensures.disk.same_image in
    let many : length events ≡ event_total o.batches = c.in_default.ensures.many in
    let keys_are : keys ≡ deltas_due o.params.k 0 (leaves o.params (event_total o.batches)) =
    c.in_ok-due.ensures.keys ∙ (λ j. deltas_due (c.params.ensures j).k 0 (leaves (c.params.ensures j) (many j))) in
    let start = g.D.Disk.taken c.args.disk.now in
    let read = g.D.Disk.taken c.read_all.new.disk in
    let topped = g.D.Disk.taken c.compare_deltas.new.disk in
    let tops = columns_bytes o (filter (has_kind delta.Top) keys) in
    let with_tops = told_then told (g.D.Disk.image c.read_all.new.disk) (columns_bytes o (filter (has_kind delta.Top) keys)) (events_bytes o) start read topped
    image_same c.read_all.ensures.takes c.compare_deltas.ensures.takes in
    let downed = g.D.Disk.taken c.compare_deltas-2.new.disk in
    told_part told (events_bytes o + tops + columns_bytes o (filter (has_kind delta.Down) keys)) (records_bytes o) start downed (downs_within o range.arity_some keys keys_are)
    (told_then told (g.D.Disk.image c.compare_deltas.new.disk) (columns_bytes o (filter (has_kind delta.Down) keys)) (events_bytes o + tops) start topped downed
    (c.compare_deltas.ensures.disk.same_image ∙ image_same) with_tops c.compare_deltas-2.ensures.takes)

pub read_all-requires-clause-read : goal.read_all-requires-clause-read
read_all-requires-clause-read g c = c.new-own.ensures.read (length c.args.names.now)
