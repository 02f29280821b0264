use Rattle.dg_fold.proofs.PathIndependenceWalks.{walks_lead}
use Rattle.dg_fold.proofs.laws.law_walks_lead.Goals as goal

pub returns : goal.returns
returns c = walks_lead
