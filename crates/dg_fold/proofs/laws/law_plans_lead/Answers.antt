use Rattle.dg_fold.proofs.PathIndependencePlans.{plans_lead}
use Rattle.dg_fold.proofs.laws.law_plans_lead.Goals as goal

pub returns : goal.returns
returns c = plans_lead
