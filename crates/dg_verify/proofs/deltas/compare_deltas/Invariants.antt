use Rattle.std.proofs.Common.{◌≡◌, drop}
use Rattle.dg_disk.specs.Calls.{ReadsDisk}
use Rattle.dg_index.specs.FileOfHistory.{delta_blobs}
use Rattle.dg_records.specs.ColumnReads.{TakesAtMost}
use Rattle.dg_start.specs.EventSources.{WhereTold}
use Rattle.dg_verify.proofs.DeltaComparisons.{DeltasGoOn}
use Rattle.dg_verify.proofs.RecordReads.{kind_bytes}
use Rattle.dg_verify.proofs.deltas.compare_deltas.Given as goal

abbrev pub invariant-loop-number : goal.invariant-loop-number
invariant-loop-number g l = record {
  frame : ReadsDisk g.D.Disk l.fn.disk l.disk;
  left : l.columns ≡ delta_blobs (drop l.number l.due.segment.deltas);
  so_far : DeltasGoOn (g.D.Disk.image l.fn.disk) l.index.opening l.kind l.due.keys.items l.due.segment.deltas l.number;
  takes : WhereTold (g.D.Disk.image l.fn.disk) (λ image. TakesAtMost (kind_bytes l.index.opening l.kind l.due.keys.items l.number) (g.D.Disk.taken l.fn.disk) (g.D.Disk.taken l.disk));
}
