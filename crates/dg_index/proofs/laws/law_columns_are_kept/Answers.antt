use Rattle.dg_index.proofs.IndexRecordColumns.{columns_are_kept}
use Rattle.dg_index.proofs.laws.law_columns_are_kept.Goals as goal

pub returns : goal.returns
returns c = columns_are_kept
