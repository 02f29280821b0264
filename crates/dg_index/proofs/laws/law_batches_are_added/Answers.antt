use Rattle.dg_index.proofs.OpenedIndexGrowth.{opened_more}
use Rattle.dg_index.proofs.laws.law_batches_are_added.Goals as goal

pub returns : goal.returns
returns c = opened_more
