use Rattle.dg_steps.proofs.StepLaws.{steps_are_exact}
use Rattle.dg_steps.proofs.laws.law_steps_are_exact.Goals as goal

pub returns : goal.returns
returns c = steps_are_exact
