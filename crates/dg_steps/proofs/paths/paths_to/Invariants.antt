use Rattle.dg_steps.proofs.GoingBack.{Back}
use Rattle.dg_steps.proofs.paths.paths_to.Given as goal

abbrev pub invariant-loop-left : goal.invariant-loop-left
invariant-loop-left l = Back l.edges l.nodes l.at.items l.left l.paths.items

abbrev pub decreases-loop-left : goal.decreases-loop-left
decreases-loop-left l = l.left
