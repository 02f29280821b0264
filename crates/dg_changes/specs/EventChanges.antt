-- The changes that come to events.
use Rattle.std.specs.Prelude.{◌≡◌, ℕ, List, Some, None, Ok, map}
use Rattle.dg_graph.specs.declared.element.Element.{Element}
use Rattle.dg_graph.specs.declared.event.Body.{Body}
use Rattle.dg_graph.specs.declared.event.Body.TheVariants as body
use Rattle.dg_graph.specs.declared.event.Change.{Change}
use Rattle.dg_graph.specs.declared.event.Event.{Event}
use Rattle.dg_graph.specs.declared.event.What.{What}
use Rattle.dg_graph.specs.declared.event.What.TheVariants as what
use Rattle.dg_graph.specs.CompletedChanges.{completed}
use Rattle.dg_graph.specs.MadeByChanges.{AreMadeByChanges}
use Rattle.dg_history.specs.EventTimes.{RisesFrom}

-- what is asked for by the change that comes to this
abbrev pub what_of : Body → What
what_of (body.NodeAdded id) = what.AddNode id
what_of (body.NodeRemoved id) = what.RemoveNode id
what_of (body.EdgeAdded directed id src dst) = what.AddEdge directed id src dst
what_of (body.EdgeRemoved directed id src dst) = what.RemoveEdge id
what_of (body.NodeAttr key id old (Some value)) = what.SetNode id key value
what_of (body.NodeAttr key id old None) = what.UnsetNode id key
what_of (body.EdgeAttr key id old (Some value)) = what.SetEdge id key value
what_of (body.EdgeAttr key id old None) = what.UnsetEdge id key
what_of (body.Message src dst value) = what.Message src dst value

-- the change that comes to the event, at its instant
abbrev pub change_of : Event → Change
change_of e = record { time = e.time; what = what_of e.body }

-- events that are changes of a set, one after another, and do not fall in time, are what these changes come to
abbrev pub ChangesCome : Type 0
ChangesCome =
    (set : List Element) (earliest : ℕ) (events : List Event) → AreMadeByChanges set events → RisesFrom earliest events
    → completed 1 earliest set (map (λ (c : Change). Some c) (map change_of events)) ≡ Ok events
