use Rattle.std.proofs.Common.{length}
use Rattle.dg_steps.proofs.CrossingSteps.{Going}
use Rattle.dg_steps.proofs.crossing.crossings_of.Given as goal

abbrev pub invariant-loop-takes : goal.invariant-loop-takes
invariant-loop-takes g l = Going l.name_count l.edges l.fn.parts l.fn.paths.items l.done l.rest l.left.items l.kept.items

abbrev pub decreases-loop-takes : goal.decreases-loop-takes
decreases-loop-takes g l = length l.left.items
