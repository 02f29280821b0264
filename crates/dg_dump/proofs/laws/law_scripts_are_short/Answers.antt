use Rattle.dg_dump.proofs.HistoryRuns.{scripts_are_short}
use Rattle.dg_dump.proofs.laws.law_scripts_are_short.Goals as goal

pub returns : goal.returns
returns c = scripts_are_short
