use Rattle.dg_dump.proofs.TextsBack.{texts_back}
use Rattle.dg_dump.proofs.laws.law_texts_read_back.Goals as goal

pub returns : goal.returns
returns c = texts_back
