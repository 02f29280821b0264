use Rattle.std.proofs.Common.{◌+◌, ◌-◌}
use Rattle.dg_planner.proofs.OrderHeights.{Starting}
use Rattle.dg_planner.proofs.node_order.level_starts.Given as goal

abbrev pub invariant-loop-width : goal.invariant-loop-width
invariant-loop-width l = Starting l.leaves l.arity l.starts.items l.width l.total

abbrev pub decreases-loop-width : goal.decreases-loop-width
decreases-loop-width l = l.leaves + 1 - l.width
