use Rattle.std.proofs.Common.{refl, ◌∙◌, ap, sym, subst, Ok, Err, arith}
use Rattle.std.specs.Prelude.{◌≡◌, false, IfSome}
use Rattle.dg_disk.proofs.FrameLemmas.{reads_stay, syncs_then_reads}
use Rattle.dg_disk.specs.Calls.{LeftByCrash}
use Rattle.dg_run.proofs.CrashRuns.{leads_on, stays_over}
use Rattle.dg_run.proofs.PromisedRuns.{no_session, session_promise}
use Rattle.dg_run.proofs.StatusStarts.{ends_for, never_begins}
use Rattle.dg_session.specs.declared.session_fault.SessionFault.{SessionFault}
use Rattle.dg_session.specs.Session.{HoldsImage}
use Rattle.dg_start.specs.Calls.{TakesStart}
use Rattle.dg_run.proofs.run.run_session.Goals as goal

pub returns-in-Err : goal.returns-in-Err
returns-in-Err g c = record {
  promise = no_session _ c.law_begins_are_determined.ensures c.args.limits c.args.checked c.from.result c.in-Err.fault _ _ _ (stays_over g.D.Disk g.met.D.Disk.only_now c.args.disk.now c.start.new.disk c.start.ensures.disk) c.from.ensures
      (record { left = refl; source_faults = refl; written = refl; sink_faults = refl; image = c.start.ensures.disk.same_image }) (omega (arith, c.start.ensures.disk.counted))
      (λ e. c.start.ensures.cause (c.in-Err.is ∙ ap (λ x. Err x) e)) c.in-Err.ensures.refused c.in-Err.ensures.never c.in-Err.ensures.takes;
  on_device = never_begins c.from.result c.in-Err.fault _ (ends_for c.from.result c.in-Err.fault c.from.ensures);
}

pub answer_script-requires-after_bounds : goal.answer_script-requires-after_bounds
answer_script-requires-after_bounds g c = λ κs bounds. subst (λ image. HoldsImage c.in-Ok.session.parts image) (sym c.expect_repeats.ensures.frame.same_image) c.in-Ok.ensures.new.1

pub returns-in-Ok : goal.returns-in-Ok
returns-in-Ok g c =
    let begins = syncs_then_reads c.start.ensures.disk c.expect_repeats.ensures.frame in
    let settled = reads_stay c.start.new.disk c.expect_repeats.new.self c.expect_repeats.ensures.frame c.in-Ok.ensures.settled in
    record {
      promise = session_promise c.in-Ok.session c.law_begins_are_determined.ensures c.args.limits c.args.checked c.in-Ok.session.parts c.answer_script.result _ _ _ (LeftByCrash g.D.Disk c.expect_repeats.new.self c.answer_script.new.disk) _ refl refl refl refl begins.same_image
          (λ rose. omega (arith, rose, begins.writes_counted)) (omega (arith, begins.counted)) (subst (λ image. HoldsImage c.in-Ok.session.parts image) c.start.ensures.disk.same_image c.in-Ok.ensures.new.1)
          c.in-Ok.ensures.started c.in-Ok.ensures.stands c.in-Ok.ensures.checked
          (subst (λ n. c.args.checked ≡ false → IfSome (g.D.Disk.image c.args.disk.now) (λ image. TakesStart {E = SessionFault} (Ok c.in-Ok.session) image (g.D.Disk.taken c.args.disk.now) n)) (sym c.expect_repeats.ensures.same_taken) c.in-Ok.ensures.takes)
          (leads_on g.D.Disk g.met.D.Disk.only_now c.args.disk.now c.expect_repeats.new.self c.answer_script.new.disk begins settled) c.answer_script.ensures.answered;
      on_device = λ begun other. c.answer_script.ensures.on_device other settled;
    }
