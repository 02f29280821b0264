use Rattle.dg_aux.proofs.Batches.{batches_keep}
use Rattle.dg_aux.proofs.laws.law_batches_keep_values.Goals as goal

pub returns : goal.returns
returns c = batches_keep
