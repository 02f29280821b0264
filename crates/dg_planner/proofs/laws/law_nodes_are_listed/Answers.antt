use Rattle.dg_planner.proofs.IndexNodeExistence.{nodes_are_listed}
use Rattle.dg_planner.proofs.laws.law_nodes_are_listed.Goals as goal

pub returns : goal.returns
returns c = nodes_are_listed
