use Rattle.std.proofs.Common.{◌≡◌, ◌*◌, ◌≤◌, length}
use Rattle.dg_disk.specs.Calls.{ReadsDisk}
use Rattle.dg_records.specs.ColumnReads.{TakesAtMost}
use Rattle.dg_history.specs.declared.node.Key.TheVariants as key
use Rattle.dg_start.specs.EventSources.{WhereTold}
use Rattle.dg_verify.specs.EventTests.{IsRead}
use Rattle.dg_verify.specs.Verification.{opened_with}
use Rattle.dg_verify.proofs.EventTestLists.{ListsGoOn}
use Rattle.dg_verify.proofs.RecordReads.{first_bytes}
use Rattle.dg_verify.proofs.lists.add_lists.Given as goal

abbrev pub invariant-loop-number : goal.invariant-loop-number
invariant-loop-number g l = record {
  frame : ReadsDisk g.D.Disk l.fn.disk l.disk;
  read : IsRead (length l.names) l.own;
  many : length l.own.events.items ≡ l.number * l.index.opening.params.l;
  so_far : ListsGoOn (g.D.Disk.image l.fn.disk) (opened_with l.index.opening l.names) l.total l.number l.own;
  takes : WhereTold (g.D.Disk.image l.fn.disk) (λ image. TakesAtMost (first_bytes l.index.opening (λ i. key.List i) l.number) (g.D.Disk.taken l.fn.disk) (g.D.Disk.taken l.disk));
  numbered : l.number ≤ l.total;
}
