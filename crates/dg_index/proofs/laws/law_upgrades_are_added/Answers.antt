use Rattle.dg_index.proofs.OpenedIndexGrowth.{opened_upgraded}
use Rattle.dg_index.proofs.laws.law_upgrades_are_added.Goals as goal

pub returns : goal.returns
returns c = opened_upgraded
