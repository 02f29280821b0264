use Rattle.dg_current.proofs.ElementIds.{one_of_each_id}
use Rattle.dg_current.proofs.SortedGraphs.{graph_passes, graph_fed}
use Rattle.dg_current.proofs.graph_test.is_graph.Goals as goal

pub returns : goal.returns
returns c =
    let items = c.args.items.now in
    let is = c.are_sound.ensures in
    (λ e. graph_passes items c.requires (is.0 e).0 (is.0 e).1, λ g. is.1 (one_of_each_id items g, graph_fed items g))
