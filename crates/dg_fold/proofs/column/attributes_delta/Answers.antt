use Rattle.dg_graph.specs.declared.element.Column.TheVariants.{NodeAttr, EdgeAttr}
use Rattle.dg_fold.proofs.PartCompositions.{folds_both}
use Rattle.dg_fold.specs.Parts.{taken_as, part_column_in}
use Rattle.dg_fold.proofs.column.attributes_delta.Goals as goal

pub returns : goal.returns
returns g c =
    let due = part_column_in c.args.name_count (taken_as c.args.part.now c.args.way c.args.until) in
    folds_both c.in_ok-joined.field-0 c.in_ok-node_attr.node_attr c.in_ok-edge_attr.edge_attr (due NodeAttr) (due EdgeAttr)
    c.in_ok-node_attr.ensures c.in_ok-edge_attr.ensures c.in_ok-joined.ensures
