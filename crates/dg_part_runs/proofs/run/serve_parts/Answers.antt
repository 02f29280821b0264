use Rattle.std.proofs.Common.{Err, Vec, Global, ap, refl, sym, ◌∙◌, subst}
use Rattle.dg_turns.specs.Ends.{streams}
use Rattle.dg_part_runs.specs.declared.status.PartsStatus.{PartsStatus}
use Rattle.dg_part_runs.specs.Disks.{SomeRose, SyncsAll, faults_of, images_of}
use Rattle.dg_part_runs.specs.PartAnswers.{AreReady}
use Rattle.dg_part_runs.specs.PartsOutside.{outside_parts}
use Rattle.dg_part_runs.specs.PartsPromised.{PartsPromised}
use Rattle.dg_part_runs.specs.StartedParts.{AreBegun, AreNotBegun}
use Rattle.dg_part_runs.proofs.DiskLists.{same_synced_images, syncs_all_then_reads}
use Rattle.dg_part_runs.proofs.PartCommands.{of_parts}
use Rattle.dg_part_runs.proofs.PartPromises.{disks_back, promised, promised_unbegun, reads_now, ready_of}
use Rattle.dg_part_runs.proofs.run.serve_parts.Goals as goal

pub answer_script-requires-clause-holds : goal.answer_script-requires-clause-holds
answer_script-requires-clause-holds g c κs within =
    let d = g.D.Disk in
    subst (λ l. AreReady d c.in-Ok.parts l) (sym (disks_back d c.args.disks.now c.deref_mut.result.now c.start_parts.new.disks c.deref_mut.ensures.value c.start_parts.ensures.disks))
    (ready_of d c.args.limits c.deref_mut.result.now c.start_parts.new.disks c.in-Ok.parts c.in-Ok.ensures.begun c.start_parts.ensures.disks)

pub answer_script-requires-clause-takes : goal.answer_script-requires-clause-takes
answer_script-requires-clause-takes g c κs within = of_parts

pub returns-in-Ok-clause-promise : goal.returns-in-Ok-clause-promise
returns-in-Ok-clause-promise g c =
    let d = g.D.Disk in
    let begun = subst (λ l. AreBegun c.args.limits (images_of d l) c.in-Ok.parts) c.deref_mut.ensures.value c.in-Ok.ensures.begun in
    let synced = subst (λ l. SyncsAll d c.args.disks.now.items l) (sym (disks_back d c.args.disks.now c.deref_mut.result.now c.start_parts.new.disks c.deref_mut.ensures.value c.start_parts.ensures.disks))
    (subst (λ l. SyncsAll d l c.start_parts.new.disks) c.deref_mut.ensures.value c.start_parts.ensures.disks) in
    subst (λ (s : PartsStatus). PartsPromised c.args.limits s (outside_parts g.S.Source g.K.Sink d c.args.source.now c.args.sink.now c.args.disks.now.items)
    (outside_parts g.S.Source g.K.Sink d c.answer_script.new.source c.answer_script.new.sink c.answer_script.new.world.items)) (sym c.from.ensures)
    (promised d (λ (v : Vec g.row.D.Denot Global). v.items) _ (λ x got m w n v r is. is) (λ m. refl) (λ x got m w n v is. is) (λ m w n v is. is.1) c.args.limits
    (streams g.S.Source g.K.Sink c.args.source.now c.args.sink.now) (streams g.S.Source g.K.Sink c.answer_script.new.source c.answer_script.new.sink) c.args.disks.now.items _ c.in-Ok.parts
    c.answer_script.result c.answer_script.new.machine c.answer_script.new.world begun synced c.answer_script.ensures.ran c.law_parts_make_the_whole_within_their_ranges.ensures)

pub returns-in-Ok-clause-disks : goal.returns-in-Ok-clause-disks
returns-in-Ok-clause-disks g c =
    let d = g.D.Disk in
    let begun = subst (λ l. AreBegun c.args.limits (images_of d l) c.in-Ok.parts) c.deref_mut.ensures.value c.in-Ok.ensures.begun in
    let synced = subst (λ l. SyncsAll d c.args.disks.now.items l) (sym (disks_back d c.args.disks.now c.deref_mut.result.now c.start_parts.new.disks c.deref_mut.ensures.value c.start_parts.ensures.disks))
    (subst (λ l. SyncsAll d l c.start_parts.new.disks) c.deref_mut.ensures.value c.start_parts.ensures.disks) in
    syncs_all_then_reads d c.args.disks.now.items _ c.answer_script.new.world.items synced
    (reads_now d (λ (v : Vec g.row.D.Denot Global). v.items) _ (λ x got m w n v r is. is) (λ m. refl) (λ x got m w n v is. is) (λ m w n v is. is.1) c.args.limits
    (streams g.S.Source g.K.Sink c.args.source.now c.args.sink.now) (streams g.S.Source g.K.Sink c.answer_script.new.source c.answer_script.new.sink) c.args.disks.now.items _ c.in-Ok.parts
    c.answer_script.result c.answer_script.new.machine c.answer_script.new.world begun synced c.answer_script.ensures.ran)

pub returns-in-Err-clause-promise : goal.returns-in-Err-clause-promise
returns-in-Err-clause-promise g c =
    let d = g.D.Disk in
    let back = disks_back d c.args.disks.now c.deref_mut.result.now c.start_parts.new.disks c.deref_mut.ensures.value c.start_parts.ensures.disks in
    promised_unbegun c.args.limits (streams g.S.Source g.K.Sink c.args.source.now c.args.sink.now) (images_of d c.args.disks.now.items) _ (faults_of d c.args.disks.now.items) _ c.in-Err.status
    (subst (λ l. AreNotBegun (images_of d l) c.in-Err.status) c.deref_mut.ensures.value c.in-Err.ensures.not_begun)
    (ap (images_of d) back ∙ same_synced_images d c.deref_mut.result.now c.start_parts.new.disks c.start_parts.ensures.disks ∙ ap (images_of d) c.deref_mut.ensures.value)
    (λ is. subst (λ l. SomeRose (faults_of d c.args.disks.now.items) (faults_of d l)) (sym back)
    (subst (λ l. SomeRose (faults_of d l) (faults_of d c.start_parts.new.disks)) c.deref_mut.ensures.value (c.in-Err.ensures.cause (ap (λ x. Err x) is))))
