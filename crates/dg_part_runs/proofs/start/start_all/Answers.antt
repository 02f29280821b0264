use Rattle.std.proofs.Common.{arith, ◌≡◌, ℕ, List, Option, Err, IfSome, ap, get_or, sym, ◌∙◌, subst}
use Rattle.std.specs.Prelude.{[], false}
use Rattle.std.proofs.Math.ListN.{length-map}
use Rattle.dg_history.specs.History.{History}
use Rattle.dg_index.specs.ImageOfHistory.{StandsAs}
use Rattle.dg_machine.specs.MachineState.{machine_at}
use Rattle.dg_session.specs.Session.{HoldsImage, StandsFor}
use Rattle.dg_session.specs.SessionStart.{RefusesSession}
use Rattle.dg_session.specs.SessionState.{SessionState}
use Rattle.dg_part_runs.specs.declared.status.PartsStatus.{PartsStatus}
use Rattle.dg_part_runs.specs.declared.status.PartsStatus.TheVariants as status
use Rattle.dg_part_runs.specs.Disks.{images_of}
use Rattle.dg_part_runs.specs.PartDamage.{BeginsWith}
use Rattle.dg_part_runs.specs.StartedParts.{AreStarted, StopsAt}
use Rattle.dg_part_runs.proofs.DiskLists.{fails_synced, syncs_all_none, syncs_one}
use Rattle.dg_part_runs.proofs.LoopSteps.{begin_before, started_step, synced_image_at, take_all, told_there}
use Rattle.dg_part_runs.proofs.PartBegins.{NeverFor, disk_ending, started_one, stops_at}
use Rattle.dg_part_runs.proofs.start.start_all.Goals as goal

pub returns-in_default-clause-disks : goal.returns-in_default-clause-disks
returns-in_default-clause-disks g c = syncs_all_none g.D.Disk c.args.disks.now

pub loop-part-init : goal.loop-part-init
loop-part-init g c = record {
  started = subst (λ (l : List SessionState). AreStarted c.args.limits l []) (sym c.in-Ok.ensures.items) tt;
  disks = syncs_all_none g.D.Disk c.args.disks.now;
  len = c.in-Ok.ensures.len;
  room = omega (arith, c.in-Ok.ensures.exact);
}

pub returns-in-Err-clause-stops : goal.returns-in-Err-clause-stops
returns-in-Err-clause-stops g c =
    let l = c.loop-part in
    let d = g.D.Disk in
    let e = c.index-disks-part.result in
    let at = synced_image_at d c.args.disks.now l.disks l.part e l.invariant.disks (omega (arith, c.loop-part-test.true)) in
    subst (λ (s : PartsStatus). StopsAt (images_of d c.args.disks.now) s) (sym c.at_part.ensures)
    (stops_at (images_of d c.args.disks.now) l.part c.in-Err.fault (get_or (images_of d c.args.disks.now) l.part (d.image e))
    (told_there d c.args.disks.now l.part e (omega (arith, c.loop-part-test.true, l.auto.disks)))
    (begin_before d c.args.limits l.sessions.items c.args.disks.now l.part l.invariant.started)
    (subst (λ (o : Option (List ℕ)). IfSome o (λ image. RefusesSession false c.in-Err.fault image)) (sym at) c.in-Err.ensures.refused)
    (subst (λ (o : Option (List ℕ)). IfSome o (NeverFor c.in-Err.fault)) (sym at) c.in-Err.ensures.never))

pub returns-in-Err-clause-cause : goal.returns-in-Err-clause-cause
returns-in-Err-clause-cause g c = λ is.
    let l = c.loop-part in
    let same : c.at_part.result ≡ status.DiskFault = cc in
    let disk = disk_ending l.part c.in-Err.fault (sym c.at_part.ensures ∙ same) in
    fails_synced g.D.Disk c.args.disks.now l.disks l.part c.start.new.disk c.index-disks-part.result l.invariant.disks (omega (arith, c.loop-part-test.true)) (c.in-Err.ensures.cause (ap (λ x. Err x) disk))

pub returns-in-Err-clause-disks : goal.returns-in-Err-clause-disks
returns-in-Err-clause-disks g c =
    let l = c.loop-part in
    syncs_one g.D.Disk c.args.disks.now l.disks l.part c.start.new.disk c.index-disks-part.result l.invariant.disks (omega (arith, c.loop-part-test.true)) c.in-Err.ensures.disk

pub loop-part-preserved : goal.loop-part-preserved
loop-part-preserved g c =
    let l = c.loop-part in
    let d = g.D.Disk in
    let e = c.index-disks-part.result in
    let session : SessionState = c.in-Ok-start.session in
    let at = synced_image_at d c.args.disks.now l.disks l.part e l.invariant.disks (omega (arith, c.loop-part-test.true)) in
    record {
      started = started_step d c.args.limits l.sessions.items c.push_reserved.new.self.items c.args.disks.now l.part e session l.invariant.started (omega (arith, c.loop-part-test.true, l.auto.disks))
          (started_one c.args.limits session (get_or (images_of d c.args.disks.now) l.part (d.image e)) c.in-Ok-start.ensures.new.0
          (subst (λ (o : Option (List ℕ)). HoldsImage session.parts o) (c.in-Ok-start.ensures.disk.same_image ∙ sym at) c.in-Ok-start.ensures.new.1)
          (subst (λ (o : Option (List ℕ)). IfSome o (BeginsWith session)) (sym at) c.in-Ok-start.ensures.started)
          (subst (λ (o : Option (List ℕ)). IfSome o (λ image. (index : Option History) → StandsAs index image → StandsFor session.parts image (machine_at c.args.limits index))) (sym at)
          c.in-Ok-start.ensures.stands)) c.push_reserved.ensures.items;
      disks = syncs_one d c.args.disks.now l.disks l.part c.start.new.disk e l.invariant.disks (omega (arith, c.loop-part-test.true)) c.in-Ok-start.ensures.disk;
      len = omega (arith, c.push_reserved.ensures.len, l.invariant.len);
      room = omega (arith, c.push_reserved.ensures.capacity, l.invariant.room);
    }

pub returns-clause-started : goal.returns-clause-started
returns-clause-started g c =
    let l = c.loop-part in
    subst (λ (told : List (Option (List ℕ))). AreStarted c.args.limits l.sessions.items told)
    (take_all (images_of g.D.Disk c.args.disks.now) l.part (omega (arith, c.loop-part-test.false, l.auto.disks, length-map c.args.disks.now g.D.Disk.image))) l.invariant.started
