use Rattle.std.proofs.Common.{◌≡◌, ◌+◌, ◌-◌, ◌≤◌, ◌++◌, length, drop}
use Rattle.dg_graph.specs.Sets.{without_all}
use Rattle.dg_set.proofs.merge.differences.Given as goal

abbrev pub invariant-loop-i : goal.invariant-loop-i
invariant-loop-i l = record {
  left_merged : l.first.items ++ without_all (drop l.i l.left) (drop l.j l.right) ≡ without_all l.left l.right;
  right_merged : l.second.items ++ without_all (drop l.j l.right) (drop l.i l.left) ≡ without_all l.right l.left;
  left_in : l.i ≤ length l.left;
  right_in : l.j ≤ length l.right;
}

abbrev pub decreases-loop-i : goal.decreases-loop-i
decreases-loop-i l = (length l.left - l.i) + (length l.right - l.j)
