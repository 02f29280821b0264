use Rattle.dg_heard.proofs.HistoryLaws.{histories_are_heard}
use Rattle.dg_heard.proofs.laws.law_histories_are_heard.Goals as goal

pub returns : goal.returns
returns c =
    histories_are_heard c.law_columns_are_kept.ensures c.law_events_are_read_back.ensures c.law_legal_histories_are_indexed.ensures
