use Rattle.dg_plan.proofs.WalkPlans.{one_plan}
use Rattle.dg_plan.proofs.laws.law_plans_are_one.Goals as goal

pub returns : goal.returns
returns c = one_plan
