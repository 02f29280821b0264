use Rattle.std.proofs.Common.{◌-◌, length}
use Rattle.dg_build.proofs.InteriorDeltaWays.{WaysSoFar}
use Rattle.dg_build.proofs.family.ways.Given as goal

abbrev pub decreases-loop-ways : goal.decreases-loop-ways
decreases-loop-ways l = l.count - length l.ways.items

abbrev pub invariant-loop-ways : goal.invariant-loop-ways
invariant-loop-ways l = WaysSoFar l.count l.fn.row.items l.ways.items l.row.items
