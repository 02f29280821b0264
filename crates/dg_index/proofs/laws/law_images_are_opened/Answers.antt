use Rattle.dg_index.proofs.OpenedIndexHistories.{images_are_opened}
use Rattle.dg_index.proofs.laws.law_images_are_opened.Goals as goal

pub returns : goal.returns
returns c = images_are_opened
