use Rattle.dg_columns.proofs.ReadFitsEvents.{events_that_are_read_fit}
use Rattle.dg_columns.proofs.laws.law_events_that_are_read_fit.Goals as goal

pub returns : goal.returns
returns c = events_that_are_read_fit
