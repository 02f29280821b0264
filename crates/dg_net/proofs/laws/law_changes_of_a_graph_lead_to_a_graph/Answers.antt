use Rattle.dg_net.proofs.NetLaws.{changes_keep_graphs}
use Rattle.dg_net.proofs.laws.law_changes_of_a_graph_lead_to_a_graph.Goals as goal

pub returns : goal.returns
returns c = changes_keep_graphs
