use Rattle.dg_planner.proofs.OrderPlaces.{nodes_apart}
use Rattle.dg_planner.proofs.laws.law_nodes_are_distinct.Goals as goal

pub returns : goal.returns
returns c = nodes_apart
