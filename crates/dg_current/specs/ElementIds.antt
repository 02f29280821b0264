-- The ids of elements. A graph has one node and one edge of each number, and one value of each key at a
-- node or an edge, so one element of a graph at the most has an id. All messages, which no graph has, have one id.
use Rattle.std.specs.Prelude.{ℕ, ◌+◌, ◌*◌, Bool, true, false, ◌&&◌, ◌==◌, List, Option, find}
use Rattle.dg_graph.specs.declared.element.Element.{Element}
use Rattle.dg_graph.specs.declared.element.Element.TheVariants as element
use Rattle.dg_graph.specs.Completion.{is_edge, is_node_value, is_edge_value, needs_node, needs_edge}
use Rattle.dg_current.specs.declared.element_id.ElementId.{ElementId}
use Rattle.dg_current.specs.declared.element_id.ElementId.TheVariants.{Node, Edge, NodeValue, EdgeValue, Message}

-- the id of an element
abbrev pub element_id_of : Element → ElementId
element_id_of (element.Node id) = Node id
element_id_of (element.Edge directed id src dst) = Edge id
element_id_of (element.NodeAttr id key value) = NodeValue key id
element_id_of (element.EdgeAttr id key value) = EdgeValue key id
element_id_of (element.Message src dst value) = Message

abbrev pub is_node : ℕ → Element → Bool
is_node id (element.Node n) = n == id
is_node id x = false

abbrev pub is_message : Element → Bool
is_message (element.Message src dst value) = true
is_message x = false

-- the element has the id
abbrev pub has_id : ElementId → Element → Bool
has_id (Node id) = is_node id
has_id (Edge id) = is_edge id
has_id (NodeValue key id) = is_node_value id key
has_id (EdgeValue key id) = is_edge_value id key
has_id Message = is_message

-- the first element of the set that has the id: of a graph the only one
abbrev pub at : List Element → ElementId → Option Element
at set p = find (has_id p) set

-- the element needs the one with the id: an edge its two ends, a value its node or edge
abbrev pub needs_id : ElementId → Element → Bool
needs_id (Node id) = needs_node id
needs_id (Edge id) = needs_edge id
needs_id (NodeValue key id) = λ x. false
needs_id (EdgeValue key id) = λ x. false
needs_id Message = λ x. false

-- both are one id
abbrev pub same_id : ElementId → ElementId → Bool
same_id (Node m) (Node n) = m == n
same_id (Edge m) (Edge n) = m == n
same_id (NodeValue c m) (NodeValue d n) = c == d && m == n
same_id (EdgeValue c m) (EdgeValue d n) = c == d && m == n
same_id Message Message = true
same_id _ _ = false

-- what is hashed for an id: the number of its node or edge
abbrev pub number_of : ElementId → ℕ
number_of (Node id) = id
number_of (Edge id) = id
number_of (NodeValue key id) = id
number_of (EdgeValue key id) = id
number_of Message = 0

-- and its kind and key as one number
abbrev pub kind_and_key : ElementId → ℕ
kind_and_key (Node id) = 0
kind_and_key (Edge id) = 1
kind_and_key (NodeValue key id) = 2 * key + 2
kind_and_key (EdgeValue key id) = 2 * key + 3
kind_and_key Message = 0
