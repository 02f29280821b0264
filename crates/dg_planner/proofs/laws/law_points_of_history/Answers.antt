use Rattle.dg_planner.proofs.HistoryLawPoints.{points_of_history}
use Rattle.dg_planner.proofs.laws.law_points_of_history.Goals as goal

pub returns : goal.returns
returns c = points_of_history
