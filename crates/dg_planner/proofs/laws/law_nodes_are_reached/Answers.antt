use Rattle.dg_planner.proofs.NodeReachability.{nodes_are_reached}
use Rattle.dg_planner.proofs.laws.law_nodes_are_reached.Goals as goal

pub returns : goal.returns
returns c = nodes_are_reached
