use Rattle.dg_index.proofs.OpenedIndexGrowth.{file_upgraded}
use Rattle.dg_index.proofs.laws.law_files_upgrade.Goals as goal

pub returns : goal.returns
returns c = file_upgraded
