-- The elements that events ever add.
use Rattle.std.specs.Prelude.{List, [], ◌∷◌}
use Rattle.dg_graph.specs.declared.element.Element.{Element}
use Rattle.dg_graph.specs.declared.event.Event.{Event}
use Rattle.dg_graph.specs.Effect.{added_by}
use Rattle.dg_graph.specs.Elements.{with_one}

abbrev pub ever : List Event → List Element
ever [] = []
ever (e ∷ events) = with_one (ever events) (added_by e.body)
