use Rattle.std.proofs.Common.{◌-◌, ◌≤◌, length}
use Rattle.dg_disk.specs.Calls.{ReadsDisk}
use Rattle.dg_records.specs.ColumnReads.{TakesAtMost}
use Rattle.dg_history.specs.declared.node.Key.TheVariants as key
use Rattle.dg_start.specs.EventSources.{WhereTold}
use Rattle.dg_verify.specs.EventTests.{IsRead}
use Rattle.dg_verify.specs.Verification.{AreSoFar, opened_with}
use Rattle.dg_verify.proofs.EventTestPieces.{PiecesGoOn}
use Rattle.dg_verify.proofs.RecordReads.{first_bytes}
use Rattle.dg_verify.proofs.pieces.add_pieces.Given as goal

abbrev pub invariant-loop-batch : goal.invariant-loop-batch
invariant-loop-batch g l = record {
  frame : ReadsDisk g.D.Disk l.fn.disk l.disk;
  read : IsRead (length l.names) l.own;
  many : AreSoFar l.index.opening l.before l.own.events.items;
  so_far : PiecesGoOn (g.D.Disk.image l.fn.disk) (opened_with l.index.opening l.names) l.fn.own l.number l.before l.own;
  takes : WhereTold (g.D.Disk.image l.fn.disk) (λ image. TakesAtMost (first_bytes l.index.opening (λ i. key.Piece i) l.number) (g.D.Disk.taken l.fn.disk) (g.D.Disk.taken l.disk));
  numbered : l.number ≤ length l.index.opening.batches;
}

abbrev pub decreases-loop-batch : goal.decreases-loop-batch
decreases-loop-batch g l = length l.index.opening.batches - l.number
