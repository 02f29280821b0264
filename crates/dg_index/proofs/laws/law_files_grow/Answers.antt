use Rattle.dg_index.proofs.OpenedIndexGrowth.{file_more}
use Rattle.dg_index.proofs.laws.law_files_grow.Goals as goal

pub returns : goal.returns
returns c = file_more
