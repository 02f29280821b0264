use Rattle.std.proofs.Common.{length}
use Rattle.dg_build.proofs.InteriorDeltaDowns.{DownsSoFar}
use Rattle.dg_build.proofs.family.add_others.Given as goal

abbrev pub decreases-loop-left : goal.decreases-loop-left
decreases-loop-left l = length l.left.items

abbrev pub invariant-loop-left : goal.invariant-loop-left
invariant-loop-left l = DownsSoFar l.to_first l.fn.ways.items l.left.items l.fn.segment l.segment
