use Rattle.dg_dump.proofs.KeptHistories.{answers_keep}
use Rattle.dg_dump.proofs.laws.law_answers_keep_histories_remade.Goals as goal

pub returns : goal.returns
returns c = answers_keep
