use Rattle.dg_plan.proofs.WalkLeastCosts.{plan_is_least}
use Rattle.dg_plan.proofs.laws.law_plans_are_least.Goals as goal

pub returns : goal.returns
returns c = plan_is_least
