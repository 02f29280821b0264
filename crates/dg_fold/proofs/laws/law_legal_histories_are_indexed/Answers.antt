use Rattle.dg_fold.proofs.LegalHistories.{legal_is_indexed}
use Rattle.dg_fold.proofs.laws.law_legal_histories_are_indexed.Goals as goal

pub returns : goal.returns
returns c = legal_is_indexed
