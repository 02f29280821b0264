use Rattle.dg_run.proofs.CrashRuns.{stays_here}
use Rattle.dg_run.proofs.PromisedRuns.{bad_words, unread_words}
use Rattle.dg_run.proofs.run.serve_with.Goals as goal

pub returns-in-Ok-None : goal.returns-in-Ok-None
returns-in-Ok-None g c = record {
  promise = bad_words c.args.limits _ _ _ _ (stays_here g.D.Disk g.met.D.Disk.only_now c.args.disk.now) (rw c.in-Ok-None.field-0-is at c.in-Ok-None.ensures.read);
  on_device = λ begun. absurd begun;
}

pub returns-in-Err : goal.returns-in-Err
returns-in-Err g c = record {
  promise = unread_words c.args.limits _ _ _ _ (stays_here g.D.Disk g.met.D.Disk.only_now c.args.disk.now);
  on_device = λ begun. absurd begun;
}
