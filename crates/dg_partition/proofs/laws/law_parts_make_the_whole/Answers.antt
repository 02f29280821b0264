use Rattle.dg_partition.proofs.PartWhole.{parts_make_the_whole}
use Rattle.dg_partition.proofs.laws.law_parts_make_the_whole.Goals as goal

pub returns : goal.returns
returns c = parts_make_the_whole
