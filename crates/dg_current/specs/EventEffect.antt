-- Which events can happen in a graph, and how they are undone.
use Rattle.std.specs.Prelude.{◌≡◌, true, false, List, [], ◌∷◌, Option, Some, None, cond, IfSome}
use Rattle.std.specs.List.{list_any}
use Rattle.std.specs.Option.{option_map, IsNone}
use Rattle.dg_graph.specs.declared.element.Element.{Element}
use Rattle.dg_graph.specs.declared.element.Element.TheVariants as element
use Rattle.dg_graph.specs.declared.event.Body.{Body}
use Rattle.dg_graph.specs.declared.event.Body.TheVariants as body
use Rattle.dg_graph.specs.declared.event.Event.{Event}
use Rattle.dg_graph.specs.Effect.{removed_by, added_by, forwards, backwards}
use Rattle.dg_graph.specs.Graph.{IsGraph, has_needs}
use Rattle.dg_graph.specs.Replay.{replay_from}
use Rattle.dg_current.specs.declared.element_id.ElementId.{ElementId}
use Rattle.dg_current.specs.declared.element_id.ElementId.TheVariants as element_id
use Rattle.dg_current.specs.ElementIds.{at, needs_id, same_id}
use Rattle.dg_current.specs.HeldGraph.{HeldGraphState, IsKnown}

-- the id of the element that the event changes; that of a message, which changes none, no element of a graph has
abbrev pub changed_id : Body → ElementId
changed_id (body.NodeAdded id) = element_id.Node id
changed_id (body.NodeRemoved id) = element_id.Node id
changed_id (body.EdgeAdded directed id src dst) = element_id.Edge id
changed_id (body.EdgeRemoved directed id src dst) = element_id.Edge id
changed_id (body.NodeAttr key id old new) = element_id.NodeValue key id
changed_id (body.EdgeAttr key id old new) = element_id.EdgeValue key id
changed_id (body.Message src dst value) = element_id.Message

-- the element with that id before the event
abbrev pub element_before : Body → Option Element
element_before (body.NodeAdded id) = None
element_before (body.NodeRemoved id) = Some (element.Node id)
element_before (body.EdgeAdded directed id src dst) = None
element_before (body.EdgeRemoved directed id src dst) = Some (element.Edge directed id src dst)
element_before (body.NodeAttr key id old new) = option_map (element.NodeAttr id key) old
element_before (body.EdgeAttr key id old new) = option_map (element.EdgeAttr id key) old
element_before (body.Message src dst value) = None

-- the element with that id after it
abbrev pub element_after : Body → Option Element
element_after (body.NodeAdded id) = Some (element.Node id)
element_after (body.NodeRemoved id) = None
element_after (body.EdgeAdded directed id src dst) = Some (element.Edge directed id src dst)
element_after (body.EdgeRemoved directed id src dst) = None
element_after (body.NodeAttr key id old new) = option_map (element.NodeAttr id key) new
element_after (body.EdgeAttr key id old new) = option_map (element.EdgeAttr id key) new
element_after (body.Message src dst value) = None

-- The event can happen in the graph: the element that it changes is as the event says, the one that
-- it leaves has what it needs, and where it leaves none, no element needs the one with the id.
pub record CanHappen (set : List Element) (b : Body) : Type 0 where
  pub before : at set (changed_id b) ≡ element_before b
  pub fed : IfSome (element_after b) (λ x. has_needs set x ≡ true)
  pub free : IsNone (element_after b) → list_any (needs_id (changed_id b)) set ≡ false

-- the event led from a graph to the set
pub record CameBy (set : List Element) (e : Event) : Type 0 where
  pub graph : IsGraph (backwards set e)
  pub happened : CanHappen (backwards set e) e.body
  pub comes : set ≡ forwards (backwards set e) e

-- each event can happen after those before it
abbrev pub AllHappen : List Element → List Event → Type 0
AllHappen set [] = Unit {0}
AllHappen set (e ∷ events) = CanHappen set e.body × AllHappen (forwards set e) events

-- the set with the events undone, the last one first
abbrev pub rewound : List Element → List Event → List Element
rewound set [] = set
rewound set (e ∷ events) = backwards (rewound set events) e

-- the element with the id before the events, as the first of them that changes it tells, or else `last`
abbrev pub element_before_all : List Event → ElementId → Option Element → Option Element
element_before_all [] p last = last
element_before_all (e ∷ events) p last = cond (same_id (changed_id e.body) p) (element_before e.body) (element_before_all events p last)

-- what the event takes away and what it adds is known, so that it can be undone without memory
pub record KnowsEvent (h : HeldGraphState) (e : Event) : Type 0 where
  pub removed : IfSome (removed_by e.body) (IsKnown h)
  pub added : IfSome (added_by e.body) (IsKnown h)

abbrev pub KnowsAllEvents : HeldGraphState → List Event → Type 0
KnowsAllEvents h [] = Unit {0}
KnowsAllEvents h (e ∷ events) = KnowsEvent h e × KnowsAllEvents h events

-- The events led from the graph before them to what is held.
pub record Led (start : List Element) (events : List Event) (h : HeldGraphState) : Type 0 where
  pub graph : IsGraph start
  pub happen : AllHappen start events
  pub comes : h.set ≡ replay_from start events
  pub known : KnowsAllEvents h events
