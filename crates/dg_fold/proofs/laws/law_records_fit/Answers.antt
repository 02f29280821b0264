use Rattle.dg_fold.proofs.RecordFits.{records_fit}
use Rattle.dg_fold.proofs.laws.law_records_fit.Goals as goal

pub returns : goal.returns
returns c = records_fit
