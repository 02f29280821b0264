use Rattle.dg_planner.proofs.PlanPotentials.{plans_are_certificates}
use Rattle.dg_planner.proofs.laws.law_plans_are_certificates.Goals as goal

pub returns : goal.returns
returns c = plans_are_certificates
