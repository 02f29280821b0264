use Rattle.dg_dump.proofs.HistoryRuns.{scripts_make_histories}
use Rattle.dg_dump.proofs.laws.law_scripts_make_their_histories.Goals as goal

pub returns : goal.returns
returns c = scripts_make_histories
