use Rattle.dg_index.proofs.OpenedIndexGrowth.{measured}
use Rattle.dg_file.proofs.laws.law_batches_are_measured.Goals as goal

pub returns : goal.returns
returns c = measured
