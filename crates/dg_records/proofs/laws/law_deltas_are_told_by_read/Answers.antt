use Rattle.dg_records.proofs.DeltaFronts.{deltas_are_told}
use Rattle.dg_records.proofs.laws.law_deltas_are_told_by_read.Goals as goal

pub returns : goal.returns
returns c = deltas_are_told
