use Rattle.dg_heard.proofs.HistoryLaws.{heard_bytes_are}
use Rattle.dg_heard.proofs.laws.law_heard_bytes_are_the_historys.Goals as goal

pub returns : goal.returns
returns c = heard_bytes_are
