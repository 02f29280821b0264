use Rattle.std.proofs.Common.{◌-◌, ◌≤◌, length}
use Rattle.dg_disk.specs.Calls.{ReadsDisk}
use Rattle.dg_index.specs.Hierarchy.{numbers}
use Rattle.dg_range.specs.Added.{asked_columns}
use Rattle.dg_range.proofs.AddedPlaces.{ArePut, rest_of}
use Rattle.dg_range.proofs.ColumnRuns.{ReadSoFar}
use Rattle.dg_range.proofs.added.push_lists.Given as goal

abbrev pub invariant-loop-list : goal.invariant-loop-list
invariant-loop-list g l = record {
  frame : ReadsDisk g.D.Disk l.initial.disk l.disk;
  few : l.list ≤ l.high;
  so_far :
      ReadSoFar l.name_count (g.D.Disk.image l.initial.disk) l.index.opening (asked_columns l.cols (numbers l.low (l.high - l.low))) (rest_of l.cols l.high (l.list, l.column))
      (ArePut l.name_count l.from l.until l.initial.put.items l.put.items) (g.D.Disk.taken l.initial.disk) (g.D.Disk.taken l.disk);
}

abbrev pub decreases-loop-list : goal.decreases-loop-list
decreases-loop-list g l = length (rest_of l.cols l.high (l.list, l.column))
