-- The graph as of an instant: the events up to it, one after another, over the empty set.
use Rattle.std.specs.Prelude.{ℕ, ◌==◌, List, [], ◌∷◌, ◌++◌, Option, Some, None, filter, if◌then◌else◌, nat_le}
use Rattle.dg_graph.specs.declared.element.Element.{Element}
use Rattle.dg_graph.specs.declared.element.Columns.{Columns}
use Rattle.dg_graph.specs.declared.element.Element.TheVariants as element
use Rattle.dg_graph.specs.declared.event.Body.{Body}
use Rattle.dg_graph.specs.declared.event.Body.TheVariants as body
use Rattle.dg_graph.specs.declared.event.Event.{Event}
use Rattle.dg_graph.specs.Effect.{forwards}
use Rattle.dg_graph.specs.Elements.{shown, with_one}

-- the events after one another, over the set
abbrev pub replay_from : List Element → List Event → List Element
replay_from set [] = set
replay_from set (e ∷ events) = replay_from (forwards set e) events

abbrev pub replay : List Event → List Element
replay events = replay_from [] events

-- the events up to the instant
abbrev pub events_until : List Event → ℕ → List Event
events_until events t = filter (λ e. nat_le e.time t) events

abbrev pub replay_at : List Event → ℕ → List Element
replay_at events t = replay (events_until events t)

-- ---- messages

-- the message of an event, if it is one
abbrev pub message_of : Body → Option Element
message_of (body.NodeAdded id) = None
message_of (body.NodeRemoved id) = None
message_of (body.EdgeAdded directed id src dst) = None
message_of (body.EdgeRemoved directed id src dst) = None
message_of (body.NodeAttr key id old new) = None
message_of (body.EdgeAttr key id old new) = None
message_of (body.Message src dst value) = Some (element.Message src dst value)

-- the messages of exactly the instant, as a set
abbrev pub told_at : List Event → ℕ → List Element
told_at [] t = []
told_at (e ∷ events) t = with_one (told_at events t) (if e.time == t then message_of e.body else None)

-- the graph as of the instant in the columns, and behind it the messages of the instant where they are asked for
abbrev pub shown_at : List Event → ℕ → Columns → List Element
shown_at events t cols = shown (replay_at events t) cols ++ (if cols.transient then told_at events t else [])
