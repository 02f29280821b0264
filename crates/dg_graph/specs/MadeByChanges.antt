-- Which events some changes come to, one after another.
use Rattle.std.specs.Prelude.{◌≡◌, true, List, [], ◌∷◌}
use Rattle.dg_graph.specs.declared.element.Element.{Element}
use Rattle.dg_graph.specs.declared.event.Event.{Event}
use Rattle.dg_graph.specs.Completion.{is_change_of}
use Rattle.dg_graph.specs.Effect.{forwards}

-- each event in turn is what some change comes to after those before it
abbrev pub AreMadeByChanges : List Element → List Event → Type 0
AreMadeByChanges set [] = Unit {0}
AreMadeByChanges set (e ∷ events) = (is_change_of set e.body ≡ true) × AreMadeByChanges (forwards set e) events
