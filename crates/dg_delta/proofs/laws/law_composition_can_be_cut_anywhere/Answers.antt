use Rattle.dg_delta.proofs.Deltas.{can_be_cut}
use Rattle.dg_delta.proofs.laws.law_composition_can_be_cut_anywhere.Goals as goal

pub returns : goal.returns
returns c = can_be_cut
