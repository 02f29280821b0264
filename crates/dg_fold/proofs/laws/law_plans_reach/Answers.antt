use Rattle.dg_fold.proofs.PathIndependencePlans.{plans_reach}
use Rattle.dg_fold.proofs.laws.law_plans_reach.Goals as goal

pub returns : goal.returns
returns c = plans_reach
