use Rattle.dg_aux.proofs.Batches.{columns_have}
use Rattle.dg_aux.proofs.laws.law_columns_have_turns.Goals as goal

pub returns : goal.returns
returns c = columns_have
