use Rattle.dg_delta.proofs.Deltas.{applies_each_in_turn}
use Rattle.dg_delta.proofs.laws.law_composition_of_a_list_applies_as_each_in_turn.Goals as goal

pub returns : goal.returns
returns c = applies_each_in_turn
