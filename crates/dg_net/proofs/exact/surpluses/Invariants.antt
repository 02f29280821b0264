use Rattle.std.proofs.Common.{◌≡◌, ◌+◌, ◌-◌, ◌≤◌, ◌++◌, length, drop}
use Rattle.dg_net.specs.Surplus.{surplus}
use Rattle.dg_net.proofs.exact.surpluses.Given as goal

abbrev pub invariant-loop-i : goal.invariant-loop-i
invariant-loop-i l = record {
  first_kept : l.first.items ++ surplus (drop l.i l.left) (drop l.j l.right) ≡ surplus l.left l.right;
  second_kept : l.second.items ++ surplus (drop l.j l.right) (drop l.i l.left) ≡ surplus l.right l.left;
  left_in : l.i ≤ length l.left;
  right_in : l.j ≤ length l.right;
}

abbrev pub decreases-loop-i : goal.decreases-loop-i
decreases-loop-i l = (length l.left - l.i) + (length l.right - l.j)
