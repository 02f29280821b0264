use Rattle.dg_columns.proofs.ReadFitsDeltas.{delta_fits}
use Rattle.dg_columns.proofs.laws.law_deltas_that_are_read_fit.Goals as goal

pub returns : goal.returns
returns c = delta_fits
