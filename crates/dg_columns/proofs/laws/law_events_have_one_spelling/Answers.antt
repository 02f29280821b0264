use Rattle.dg_columns.proofs.ColumnLawSpelling.{events_spelled}
use Rattle.dg_columns.proofs.laws.law_events_have_one_spelling.Goals as goal

pub returns : goal.returns
returns c = events_spelled
