use Rattle.dg_columns.proofs.ColumnLawMerges.{events_merged}
use Rattle.dg_columns.proofs.laws.law_events_are_merged_back.Goals as goal

pub returns : goal.returns
returns c = events_merged
