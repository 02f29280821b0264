use Rattle.dg_aux.proofs.FoundNodes.{found_there}
use Rattle.dg_aux.proofs.laws.law_found_nodes_are_there.Goals as goal

pub returns : goal.returns
returns c = found_there
