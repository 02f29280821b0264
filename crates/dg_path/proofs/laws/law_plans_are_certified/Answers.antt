use Rattle.dg_path.proofs.PlanLineVerdicts.{plans_are_certified}
use Rattle.dg_path.proofs.laws.law_plans_are_certified.Goals as goal

pub returns : goal.returns
returns c = plans_are_certified
