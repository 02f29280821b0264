use Rattle.std.proofs.Common.{◌≡◌, ◌+◌, ◌-◌, ◌≤◌, length, drop}
use Rattle.dg_graph.specs.Sets.{met}
use Rattle.dg_set.proofs.merge.are_apart.Given as goal

abbrev pub invariant-loop-i : goal.invariant-loop-i
invariant-loop-i l = record {
  to_come : met (drop l.i l.left) (drop l.j l.right) ≡ met l.left l.right;
  left_in : l.i ≤ length l.left;
  right_in : l.j ≤ length l.right;
}

abbrev pub decreases-loop-i : goal.decreases-loop-i
decreases-loop-i l = (length l.left - l.i) + (length l.right - l.j)
