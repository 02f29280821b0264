use Rattle.dg_start.proofs.SessionStartUniqueness.{starts_are_determined}
use Rattle.dg_start.proofs.laws.law_starts_are_determined.Goals as goal

pub returns : goal.returns
returns c = starts_are_determined
