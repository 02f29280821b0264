use Rattle.dg_plan.proofs.WalkLeastCosts.{certified}
use Rattle.dg_plan.proofs.laws.law_certificates_hold.Goals as goal

pub returns : goal.returns
returns c = certified
