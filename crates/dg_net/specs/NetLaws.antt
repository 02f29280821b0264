-- The laws of lists of events, as they are proved.
use Rattle.std.specs.Prelude.{List}
use Rattle.dg_graph.specs.declared.element.Element.{Element}
use Rattle.dg_graph.specs.declared.event.Event.{Event}
use Rattle.dg_graph.specs.MadeByChanges.{AreMadeByChanges}
use Rattle.dg_graph.specs.Graph.{IsGraph}
use Rattle.dg_graph.specs.Replay.{replay_from}
use Rattle.dg_graph.specs.ExactEvents.{AreChangesOf}

-- from a graph on, events that are made by changes are exact
abbrev pub ChangesAreExact : Type 0
ChangesAreExact = (set : List Element) (events : List Event) → IsGraph set → AreMadeByChanges set events → AreChangesOf set events

-- and lead to a graph
abbrev pub ChangesKeepGraphs : Type 0
ChangesKeepGraphs = (set : List Element) (events : List Event) → IsGraph set → AreMadeByChanges set events → IsGraph (replay_from set events)
