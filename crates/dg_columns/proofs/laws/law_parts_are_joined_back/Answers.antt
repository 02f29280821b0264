use Rattle.dg_columns.proofs.ReadFitsParts.{parts_back}
use Rattle.dg_columns.proofs.laws.law_parts_are_joined_back.Goals as goal

pub returns : goal.returns
returns c = parts_back
