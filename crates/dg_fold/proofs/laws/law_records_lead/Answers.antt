use Rattle.dg_fold.proofs.PathIndependenceRecords.{records_lead}
use Rattle.dg_fold.proofs.laws.law_records_lead.Goals as goal

pub returns : goal.returns
returns c = records_lead
