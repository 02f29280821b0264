use Rattle.dg_fold.proofs.PathIndependenceTrees.{trees_reach}
use Rattle.dg_fold.proofs.laws.law_trees_reach.Goals as goal

pub returns : goal.returns
returns c = trees_reach
