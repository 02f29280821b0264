use Rattle.dg_columns.proofs.ColumnLawSpelling.{delta_spelled}
use Rattle.dg_columns.proofs.laws.law_deltas_have_one_spelling.Goals as goal

pub returns : goal.returns
returns c = delta_spelled
