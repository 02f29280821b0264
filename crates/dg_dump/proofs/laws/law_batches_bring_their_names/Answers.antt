use Rattle.dg_dump.proofs.BroughtNames.{batches_bring}
use Rattle.dg_dump.proofs.laws.law_batches_bring_their_names.Goals as goal

pub returns : goal.returns
returns c = batches_bring
