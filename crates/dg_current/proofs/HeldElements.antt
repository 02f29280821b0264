-- What is held under the id of an element that a graph can have makes it again.
use Rattle.std.proofs.Common.{◌≡◌, true, List, Some, None, refl}
use Rattle.std.proofs.lemmas.Bool.{false≢true}
use Rattle.dg_graph.specs.declared.element.Element.{Element}
use Rattle.dg_graph.specs.declared.element.Element.TheVariants as element
use Rattle.dg_graph.specs.Graph.{has_needs}
use Rattle.dg_current.specs.declared.element_id.ElementId.{ElementId}
use Rattle.dg_current.specs.declared.element_id.ElementId.TheVariants.{Node, Edge, NodeValue, EdgeValue, Message}
use Rattle.dg_current.specs.declared.held.Held.TheVariants.{Nothing}
use Rattle.dg_current.specs.ElementIds.{element_id_of}
use Rattle.dg_current.specs.HeldElements.{held_of, element_in}

pub held_itself : (set : List Element) (x : Element) → has_needs set x ≡ true → element_in (element_id_of x) (held_of x) ≡ Some x
held_itself set (element.Node id) h = refl
held_itself set (element.Edge directed id src dst) h = refl
held_itself set (element.NodeAttr id key value) h = refl
held_itself set (element.EdgeAttr id key value) h = refl
held_itself set (element.Message src dst value) h = absurd (false≢true h)

pub held_nothing : (p : ElementId) → element_in p Nothing ≡ None
held_nothing (Node id) = refl
held_nothing (Edge id) = refl
held_nothing (NodeValue key id) = refl
held_nothing (EdgeValue key id) = refl
held_nothing Message = refl
