use Rattle.dg_partition.proofs.PartRanges.{parts_make_the_whole_within}
use Rattle.dg_partition.proofs.laws.law_parts_make_the_whole_within_their_ranges.Goals as goal

pub returns : goal.returns
returns c = parts_make_the_whole_within
