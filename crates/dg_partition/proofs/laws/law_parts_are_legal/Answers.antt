use Rattle.dg_partition.proofs.PartLegality.{legal_part}
use Rattle.dg_partition.proofs.laws.law_parts_are_legal.Goals as goal

pub returns : goal.returns
returns c = λ z legal i p. legal_part p i z legal
