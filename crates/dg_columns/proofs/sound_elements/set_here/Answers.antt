use Rattle.std.proofs.Common.{List, [], None, subst, ap, length, drop}
use Rattle.dg_graph.specs.declared.element.Element.{Element}
use Rattle.dg_graph.specs.Elements.{IsSet}
use Rattle.dg_columns.proofs.FieldElements.{elements_keep}
use Rattle.dg_columns.proofs.sound_elements.set_here.Goals as goal

pub from_rising-requires : goal.from_rising-requires
from_rising-requires c =
    let items : List Element = c.push_elements.new.items.items in
    let kept = elements_keep c.args.count c.args.col c.args.name_count c.args.bytes.now [] c.args.start None _ c.in_ok-end.end c.in_ok-end.ensures.elements in
    subst IsSet (ap (λ (old : List Element). drop (length old) items) c.new-items.ensures.items) kept.set
