use Rattle.dg_columns.proofs.ColumnLawEvents.{events_back}
use Rattle.dg_columns.proofs.laws.law_events_are_read_back.Goals as goal

pub returns : goal.returns
returns c = events_back
