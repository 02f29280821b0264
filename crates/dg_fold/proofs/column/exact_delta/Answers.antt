use Rattle.dg_fold.specs.Parts.{taken_as}
use Rattle.dg_fold.proofs.PartDeltas.{folds_columns}
use Rattle.dg_fold.proofs.column.exact_delta.Goals as goal

pub returns : goal.returns
returns c =
    let way = c.args.way in
    let until = c.args.until in
    folds_columns c.args.name_count (taken_as c.args.part.now way until) c.in_ok-structure.structure c.in_ok-attributes.attributes.node_attr c.in_ok-attributes.attributes.edge_attr
    c.in_ok-delta.delta c.turned.result (c.in_ok-structure.ensures.ok way until) (c.in_ok-attributes.ensures.node_attr way until) (c.in_ok-attributes.ensures.edge_attr way until)
    c.in_ok-structure.ensures.inside c.in_ok-attributes.ensures.in_node_attr c.in_ok-attributes.ensures.in_edge_attr c.in_ok-delta.ensures (c.turned.ensures until)
