use Rattle.dg_planner.proofs.HistoryLawGraphs.{graph_of_history}
use Rattle.dg_planner.proofs.laws.law_graph_of_history.Goals as goal

pub returns : goal.returns
returns c = graph_of_history
