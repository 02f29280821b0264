use Rattle.dg_fold.proofs.HistoryPaths.{history_paths_lead}
use Rattle.dg_fold.proofs.laws.law_history_paths_lead.Goals as goal

pub returns : goal.returns
returns c = history_paths_lead
