use Rattle.std.proofs.Common.{◌-◌}
use Rattle.dg_disk.specs.Calls.{ReadsDisk}
use Rattle.dg_heard.specs.Heard.{list_total}
use Rattle.dg_messages.proofs.HeardLists.{HeardSoFar}
use Rattle.dg_messages.proofs.told.push_heard.Given as goal

abbrev pub invariant-loop-list : goal.invariant-loop-list
invariant-loop-list g l = record {
  frame : ReadsDisk g.D.Disk l.initial.disk l.disk;
  so_far : HeardSoFar l.name_count (g.D.Disk.image l.initial.disk) l.index.opening l.times l.from l.lists (g.D.Disk.taken l.initial.disk) (g.D.Disk.taken l.disk);
}

abbrev pub decreases-loop-list : goal.decreases-loop-list
decreases-loop-list g l = list_total l.index.opening - l.from
