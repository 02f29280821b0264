-- The elements of a set in their order: what a search in them finds, and the ends of their edges.
use Rattle.std.specs.Prelude.{◌≡◌, ℕ, ◌<◌, ◌≤◌, Bool, true, false, ◌&&◌, ◌||◌, ◌==◌, List, Option, Some, None, length, slice_index_or, IsTrue}
use Rattle.std.specs.List.{list_any, count_by}
use Rattle.std.specs.List.Sorted.{IsNonDecreasing}
use Rattle.dg_graph.specs.declared.element.Element.{Element}
use Rattle.dg_graph.specs.declared.element.Element.TheVariants as element
use Rattle.dg_graph.specs.Completion.{has_node}
use Rattle.dg_graph.specs.Elements.{before, has}
use Rattle.dg_current.specs.declared.element_id.ElementId.{ElementId}
use Rattle.dg_current.specs.declared.element_id.ElementId.TheVariants.{Node, Edge, NodeValue, EdgeValue, Message}
use Rattle.dg_current.specs.ElementIds.{element_id_of}

-- the least element with the id, in the order of elements
abbrev pub least : ElementId → Element
least (Node id) = element.Node id
least (Edge id) = element.Edge false id 0 0
least (NodeValue key id) = element.NodeAttr id key 0
least (EdgeValue key id) = element.EdgeAttr id key 0
least Message = element.Message 0 0 0

-- the items up to the index are before the element, and none from there on is
pub record IsFirstFrom (x : Element) (items : List Element) (index : ℕ) : Type 0 where
  pub within : index ≤ length items
  pub below : (k : ℕ) (d : Element) → k < index → IsTrue (before (slice_index_or items k d) x)
  pub above : (k : ℕ) (d : Element) → index ≤ k → k < length items → before (slice_index_or items k d) x ≡ false

-- no two elements of the set have one id
abbrev pub OneOfEachId : List Element → Type 0
OneOfEachId set = (x y : Element) → has set x ≡ true → has set y ≡ true → element_id_of x ≡ element_id_of y → x ≡ y

-- the id of the element that a value stands at
abbrev pub holder_of : Element → Option ElementId
holder_of (element.NodeAttr id key value) = Some (Node id)
holder_of (element.EdgeAttr id key value) = Some (Edge id)
holder_of _ = None

-- the two ends of an edge are in the set; a message is in no graph
abbrev pub has_ends : List Element → Element → Bool
has_ends set (element.Edge directed id src dst) = has_node set src && has_node set dst
has_ends set (element.Message src dst value) = false
has_ends set _ = true

-- the element is a value at the one with the id
abbrev pub is_value_at : ElementId → Element → Bool
is_value_at (Node id) (element.NodeAttr n key value) = n == id
is_value_at (Edge id) (element.EdgeAttr n key value) = n == id
is_value_at p x = false

-- the first value that can stand at the element with the id
abbrev pub least_value_at : ElementId → Element
least_value_at (Node id) = element.NodeAttr id 0 0
least_value_at (Edge id) = element.EdgeAttr id 0 0
least_value_at (NodeValue key id) = element.NodeAttr id 0 0
least_value_at (EdgeValue key id) = element.EdgeAttr id 0 0
least_value_at Message = element.NodeAttr 0 0 0

-- the element is an edge with this end
abbrev pub has_end : ℕ → Element → Bool
has_end id (element.Edge directed n src dst) = src == id || dst == id
has_end id _ = false

-- The numbers are the ends of the edges of the set in their order, each as often as edges have it.
pub record AreEndsOf (set : List Element) (ends : List ℕ) : Type 0 where
  pub rises : IsNonDecreasing ends
  pub counts : (id : ℕ) → count_by (λ end. end == id) ends ≡ count_by (has_end id) set

-- The numbers are the ids of the nodes of the set in their order.
pub record AreNodesOf (set : List Element) (nodes : List ℕ) : Type 0 where
  pub rises : IsNonDecreasing nodes
  pub among : (id : ℕ) → list_any (λ node. node == id) nodes ≡ has_node set id
