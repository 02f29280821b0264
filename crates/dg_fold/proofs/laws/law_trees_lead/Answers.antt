use Rattle.dg_fold.proofs.PathIndependenceTrees.{trees_lead}
use Rattle.dg_fold.proofs.laws.law_trees_lead.Goals as goal

pub returns : goal.returns
returns c = trees_lead
