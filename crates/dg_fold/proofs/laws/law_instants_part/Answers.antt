use Rattle.dg_fold.proofs.PathIndependenceInstants.{instants_part}
use Rattle.dg_fold.proofs.laws.law_instants_part.Goals as goal

pub returns : goal.returns
returns c = instants_part
