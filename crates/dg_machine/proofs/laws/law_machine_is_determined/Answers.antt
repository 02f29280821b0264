use Rattle.dg_machine.proofs.MachineLawDeterminism.{determined}
use Rattle.dg_machine.proofs.laws.law_machine_is_determined.Goals as goal

pub returns : goal.returns
returns c = determined
