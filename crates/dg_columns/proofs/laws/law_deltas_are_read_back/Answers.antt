use Rattle.dg_columns.proofs.ColumnLawDeltas.{deltas_back}
use Rattle.dg_columns.proofs.laws.law_deltas_are_read_back.Goals as goal

pub returns : goal.returns
returns c = deltas_back
