use Rattle.dg_delta.proofs.Deltas.{applies_one_after_the_other}
use Rattle.dg_delta.proofs.laws.law_composition_applies_as_one_after_the_other.Goals as goal

pub returns : goal.returns
returns c = applies_one_after_the_other
