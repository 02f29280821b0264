-- What is held under the id of an element, and the element that it makes with the id.
use Rattle.std.specs.Prelude.{Option, Some, None}
use Rattle.dg_graph.specs.declared.element.Element.{Element}
use Rattle.dg_graph.specs.declared.element.Element.TheVariants as element
use Rattle.dg_current.specs.declared.element_id.ElementId.{ElementId}
use Rattle.dg_current.specs.declared.element_id.ElementId.TheVariants as element_id
use Rattle.dg_current.specs.declared.held.Held.{Held}
use Rattle.dg_current.specs.declared.held.Held.TheVariants as held

-- what the element's id does not say of it; nothing of a message, which no graph has
abbrev pub held_of : Element → Held
held_of (element.Node id) = held.Node
held_of (element.Edge directed id src dst) = held.Edge directed src dst
held_of (element.NodeAttr id key value) = held.Value value
held_of (element.EdgeAttr id key value) = held.Value value
held_of (element.Message src dst value) = held.Nothing

-- the element that is held under an id; where the two are not of one kind, there is none
abbrev pub element_in : ElementId → Held → Option Element
element_in (element_id.Node id) held.Node = Some (element.Node id)
element_in (element_id.Edge id) (held.Edge directed src dst) = Some (element.Edge directed id src dst)
element_in (element_id.NodeValue key id) (held.Value value) = Some (element.NodeAttr id key value)
element_in (element_id.EdgeValue key id) (held.Value value) = Some (element.EdgeAttr id key value)
element_in p h = None
