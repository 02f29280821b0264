use Rattle.dg_file.proofs.ImageUpgrades.{measured}
use Rattle.dg_file.proofs.laws.law_upgrades_are_measured.Goals as goal

pub returns : goal.returns
returns c = measured
