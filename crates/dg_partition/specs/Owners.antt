-- Which parts of a partition by id have an element, and which an event.
use Rattle.std.specs.Prelude.{ℕ, ◌%◌, ◌==◌, Bool, true, List, Option, Some, None, filter}
use Rattle.dg_graph.specs.declared.element.Element.{Element}
use Rattle.dg_graph.specs.declared.element.Element.TheVariants as element
use Rattle.dg_graph.specs.declared.event.Body.{Body}
use Rattle.dg_graph.specs.declared.event.Body.TheVariants as body
use Rattle.dg_graph.specs.declared.event.Event.{Event}

-- The id by which an event is placed: that of the edge, of the node or the edge of an attribute, and of the node that a
-- message comes from. What adds or removes a node is placed by none.
abbrev pub owner_of_body : Body → Option ℕ
owner_of_body (body.NodeAdded id) = None
owner_of_body (body.NodeRemoved id) = None
owner_of_body (body.EdgeAdded directed id src dst) = Some id
owner_of_body (body.EdgeRemoved directed id src dst) = Some id
owner_of_body (body.NodeAttr key id old new) = Some id
owner_of_body (body.EdgeAttr key id old new) = Some id
owner_of_body (body.Message src dst value) = Some src

-- the id by which an element is placed
abbrev pub owner_of : Element → Option ℕ
owner_of (element.Node id) = None
owner_of (element.Edge directed id src dst) = Some id
owner_of (element.NodeAttr id key value) = Some id
owner_of (element.EdgeAttr id key value) = Some id
owner_of (element.Message src dst value) = Some src

-- part i of p has what is placed by this id: by an id modulo p, and by none everywhere
abbrev pub is_placed : ℕ → ℕ → Option ℕ → Bool
is_placed p i None = true
is_placed p i (Some id) = id % p == i

-- the event belongs to part i of p
abbrev pub belongs : ℕ → ℕ → Event → Bool
belongs p i e = is_placed p i (owner_of_body e.body)

-- the events that belong to part i of p, in their order
abbrev pub events_of_part : ℕ → ℕ → List Event → List Event
events_of_part p i events = filter (belongs p i) events

-- the elements that are in part i of p
abbrev pub elements_of_part : ℕ → ℕ → List Element → List Element
elements_of_part p i set = filter (λ x. is_placed p i (owner_of x)) set
