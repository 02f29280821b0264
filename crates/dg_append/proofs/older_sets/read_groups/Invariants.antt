use Rattle.std.proofs.Common.{◌≡◌, ◌≤◌, ◌-◌, length}
use Rattle.std.specs.Prelude.{IfSome}
use Rattle.dg_append.proofs.OlderGroupSets.{GroupsAreRead}
use Rattle.dg_append.proofs.older_sets.read_groups.Given as goal
use Rattle.dg_disk.specs.Calls.{ReadsDisk}

abbrev pub invariant-loop-done : goal.invariant-loop-done
invariant-loop-done g l = record {
  within : l.done ≤ length l.nodes;
  count : length l.sets.items ≡ l.done;
  read : IfSome (g.D.Disk.image l.initial.disk) (GroupsAreRead l.from.index.now.opening l.from.name_count l.nodes l.done l.sets.items (g.D.Disk.taken l.initial.disk) (g.D.Disk.taken l.disk));
  disk : ReadsDisk g.D.Disk l.initial.disk l.disk;
}

abbrev pub decreases-loop-done : goal.decreases-loop-done
decreases-loop-done g l = length l.nodes - l.done
