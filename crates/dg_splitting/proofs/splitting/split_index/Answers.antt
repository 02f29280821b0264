use Rattle.std.proofs.Common.{◌≡◌, Err, ap}
use Rattle.std.proofs.lemmas.Result.{IfErr-weaker, on_ok_weaker}
use Rattle.dg_disk.proofs.FrameLemmas.{syncs_then_reads}
use Rattle.dg_splitting.specs.declared.status.SplitStatus.TheVariants as status
use Rattle.dg_session.specs.declared.session_fault.SessionFault.{SessionFault}
use Rattle.dg_session.specs.declared.session_fault.SessionFault.TheVariants.{Start}
use Rattle.dg_splitting.specs.declared.status.SplitStatus.{SplitStatus}
use Rattle.dg_splitting.specs.Endings.{of_start}
use Rattle.dg_splitting.specs.Splits.{Splits}
use Rattle.dg_splitting.proofs.Failures.{err_any}
use Rattle.dg_splitting.proofs.SplitEnds.{behind, no_session}
use Rattle.dg_splitting.proofs.splitting.split_index.Goals as goal

pub returns-in_err-session-clause-ended : goal.returns-in_err-session-clause-ended
returns-in_err-session-clause-ended g c =
    let f : SessionFault = c.in_err-session.field-0.0 in
    err_any c.from_residual.result (λ (s : SplitStatus). s ≡ of_start f) (λ (s : SplitStatus). Splits g.D.Disk c.args.limits.file_bytes s c.args.disk.now c.start.new.disk c.args.outs.now c.args.outs.now) c.from_residual.ensures
    (λ s is. no_session g.D.Disk c.args.limits.file_bytes f s c.args.disk.now c.start.new.disk c.args.outs.now c.in_err-session.ensures.refused c.in_err-session.ensures.never
    (λ e. c.in_err-session.ensures.cause (ap (λ (f : SessionFault). Err f) e)) is)

pub returns-clause-done : goal.returns-clause-done
returns-clause-done g c =
    on_ok_weaker c.split_session.result (behind g.D.Disk c.args.limits.file_bytes status.Done c.args.disk.now c.start.new.disk c.split_session.new.disk c.args.outs.now c.split_session.new.outs c.start.ensures.disk) c.split_session.ensures.done

pub returns-clause-ended : goal.returns-clause-ended
returns-clause-ended g c =
    IfErr-weaker c.split_session.result (λ (s : SplitStatus). Splits g.D.Disk c.args.limits.file_bytes s c.start.new.disk c.split_session.new.disk c.args.outs.now c.split_session.new.outs)
    (λ (s : SplitStatus). Splits g.D.Disk c.args.limits.file_bytes s c.args.disk.now c.split_session.new.disk c.args.outs.now c.split_session.new.outs)
    (λ s h. behind g.D.Disk c.args.limits.file_bytes s c.args.disk.now c.start.new.disk c.split_session.new.disk c.args.outs.now c.split_session.new.outs c.start.ensures.disk h) c.split_session.ensures.ended

pub returns-clause-disk : goal.returns-clause-disk
returns-clause-disk g c = syncs_then_reads c.start.ensures.disk c.split_session.ensures.disk
