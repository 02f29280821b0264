use Rattle.dg_graph.specs.declared.element.Column.TheVariants.{Structure, NodeAttr, EdgeAttr}
use Rattle.dg_fold.proofs.PartCompositions.{folds_both}
use Rattle.dg_fold.specs.Parts.{taken_as, part_column_in, beside}
use Rattle.dg_fold.proofs.column.events_delta.Goals as goal

pub returns : goal.returns
returns g c =
    let due = part_column_in c.args.name_count (taken_as c.args.part.now c.args.way c.args.until) in
    folds_both c.in_ok-joined.field-0 c.in_ok-structure.structure c.in_ok-attributes.attributes (due Structure) (beside (due NodeAttr) (due EdgeAttr))
    c.in_ok-structure.ensures c.in_ok-attributes.ensures c.in_ok-joined.ensures
