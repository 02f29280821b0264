use Rattle.dg_fold.proofs.PathIndependenceWalks.{instants_are_reached}
use Rattle.dg_fold.proofs.laws.law_instants_are_reached.Goals as goal

pub returns : goal.returns
returns c = instants_are_reached
