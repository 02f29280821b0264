use Rattle.std.proofs.Common.{◌≡◌, length}
use Rattle.dg_splitting.proofs.OutLists.{IsUpTo}
use Rattle.dg_splitting.proofs.PartRuns.{IsWritten}
use Rattle.dg_splitting.proofs.parts.write_parts.Given as goal

abbrev pub invariant-loop-part : goal.invariant-loop-part
invariant-loop-part g l = record {
  many : l.parts ≡ length l.fn.outs;
  up_to : IsUpTo (IsWritten g.D.Disk l.limit l.whole.params l.whole.names.now l.whole.events.now l.parts) l.fn.outs l.outs l.part;
}
