use Rattle.dg_fold.proofs.PathIndependenceSteps.{steps_are_walks}
use Rattle.dg_fold.proofs.laws.law_steps_are_walks.Goals as goal

pub returns : goal.returns
returns c = steps_are_walks
