use Rattle.dg_fold.proofs.HistoryTrees.{history_trees_reach}
use Rattle.dg_fold.proofs.laws.law_history_trees_reach.Goals as goal

pub returns : goal.returns
returns c = history_trees_reach
