-- What an event removes and what it adds.
use Rattle.std.specs.Prelude.{ℕ, List, Option, Some, None, if◌then◌else◌, nat_eq}
use Rattle.std.specs.Option.{option_map, option_eq}
use Rattle.dg_graph.specs.declared.element.Element.{Element}
use Rattle.dg_graph.specs.declared.element.Element.TheVariants as element
use Rattle.dg_graph.specs.declared.event.Body.{Body}
use Rattle.dg_graph.specs.declared.event.Body.TheVariants as body
use Rattle.dg_graph.specs.declared.event.Event.{Event}
use Rattle.dg_graph.specs.Elements.{with_one, without}

-- the element of a value that goes from one to another; where the two are one, nothing changes
abbrev pub moved : (ℕ → Element) → Option ℕ → Option ℕ → Option Element
moved make value other = if option_eq nat_eq value other then None else option_map make value

-- the element that the event removes
abbrev pub removed_by : Body → Option Element
removed_by (body.NodeAdded id) = None
removed_by (body.NodeRemoved id) = Some (element.Node id)
removed_by (body.EdgeAdded directed id src dst) = None
removed_by (body.EdgeRemoved directed id src dst) = Some (element.Edge directed id src dst)
removed_by (body.NodeAttr key id old new) = moved (element.NodeAttr id key) old new
removed_by (body.EdgeAttr key id old new) = moved (element.EdgeAttr id key) old new
removed_by (body.Message src dst value) = None

-- the element that the event adds
abbrev pub added_by : Body → Option Element
added_by (body.NodeAdded id) = Some (element.Node id)
added_by (body.NodeRemoved id) = None
added_by (body.EdgeAdded directed id src dst) = Some (element.Edge directed id src dst)
added_by (body.EdgeRemoved directed id src dst) = None
added_by (body.NodeAttr key id old new) = moved (element.NodeAttr id key) new old
added_by (body.EdgeAttr key id old new) = moved (element.EdgeAttr id key) new old
added_by (body.Message src dst value) = None

-- the set after the event: without what it removes, and with what it adds
abbrev pub forwards : List Element → Event → List Element
forwards set e = with_one (without set (removed_by e.body)) (added_by e.body)

-- the set before the event: without what it adds, and with what it removes
abbrev pub backwards : List Element → Event → List Element
backwards set e = with_one (without set (added_by e.body)) (removed_by e.body)
