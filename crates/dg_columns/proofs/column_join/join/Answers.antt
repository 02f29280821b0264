use Rattle.std.proofs.Common.{subst, sym}
use Rattle.dg_graph.specs.Composition.{IsDelta}
use Rattle.dg_delta.specs.Deltas.{joined}
use Rattle.dg_columns.proofs.ReadFitsParts.{two_joined, three_joined}
use Rattle.dg_columns.proofs.column_join.join.Goals as goal

pub join-requires : goal.join-requires
join-requires c =
    two_joined c.args.structure c.args.node_attrs.now c.args.edge_attrs.now c.rises.ensures c.rises-2.ensures c.rises-3.ensures c.requires.structure c.requires.node_attrs c.requires.edge_attrs

pub join-requires-2 : goal.join-requires-2
join-requires-2 c =
    subst (λ d. IsDelta (joined d c.args.edge_attrs.now)) (sym c.in_ok-join.ensures)
    (three_joined c.args.structure c.args.node_attrs.now c.args.edge_attrs.now c.rises.ensures c.rises-2.ensures c.rises-3.ensures c.requires.structure c.requires.node_attrs c.requires.edge_attrs)
