use Rattle.dg_net.proofs.NetLaws.{changes_are_exact}
use Rattle.dg_net.proofs.laws.law_changes_of_a_graph_are_exact.Goals as goal

pub returns : goal.returns
returns c = changes_are_exact
