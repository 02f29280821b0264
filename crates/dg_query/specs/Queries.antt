-- What is asked of a graph, as functions of the set of its elements.
use Rattle.std.specs.Prelude.{ℕ, ◌==◌, Bool, true, false, if◌then◌else◌, List, [], ◌∷◌, Option, Some, None, count_by, length, filter_map}
use Rattle.dg_graph.specs.declared.element.Element.{Element}
use Rattle.dg_graph.specs.declared.element.Element.TheVariants.{Node, Edge, NodeAttr, EdgeAttr, Message}
use Rattle.dg_query.specs.declared.answers.Counts.{Counts}
use Rattle.dg_query.specs.declared.answers.KeyValue.{KeyValue}
use Rattle.dg_query.specs.declared.answers.Neighbour.{Neighbour}
use Rattle.dg_query.specs.declared.answers.Side.{Side}
use Rattle.dg_query.specs.declared.answers.Side.TheVariants as side

-- ---- counts

abbrev pub is_a_node : Element → Bool
is_a_node (Node id) = true
is_a_node _ = false

abbrev pub is_an_edge : Element → Bool
is_an_edge (Edge directed id src dst) = true
is_an_edge _ = false

abbrev pub is_a_node_attr : Element → Bool
is_a_node_attr (NodeAttr id key value) = true
is_a_node_attr _ = false

abbrev pub is_an_edge_attr : Element → Bool
is_an_edge_attr (EdgeAttr id key value) = true
is_an_edge_attr _ = false

abbrev pub is_a_message : Element → Bool
is_a_message (Message src dst value) = true
is_a_message _ = false

-- how many elements of each kind the set has
abbrev pub counts_of : List Element → Counts
counts_of set = record {
  nodes = count_by is_a_node set;
  edges = count_by is_an_edge set;
  node_attrs = count_by is_a_node_attr set;
  edge_attrs = count_by is_an_edge_attr set;
  messages = count_by is_a_message set;
}

-- ---- edges at a node

-- the side on which an edge lies, by the side where it is directed
abbrev pub side_as : Bool → Side → Side
side_as directed s = if directed then s else side.Both

-- The edge at the node, if the element is one: its other end, and the side on which it lies. A loop is one
-- edge at its node.
abbrev pub edge_at : ℕ → Element → Option Neighbour
edge_at n (Edge directed id src dst) =
    if src == n then Some (record { edge = id; node = dst; side = side_as directed side.Out })
    else (if dst == n then Some (record { edge = id; node = src; side = side_as directed side.Inward }) else None)
edge_at n _ = None

-- the edges at a node, by their ids
abbrev pub neighbours_of : List Element → ℕ → List Neighbour
neighbours_of set n = filter_map (edge_at n) set

-- how many edges a node has
abbrev pub degree_of : List Element → ℕ → ℕ
degree_of set n = length (neighbours_of set n)

-- ---- attributes of a node

-- the key and the value, if the element is an attribute of the node
abbrev pub value_at : ℕ → Element → Option KeyValue
value_at n (NodeAttr id key value) = if id == n then Some (record { key = key; value = value }) else None
value_at n _ = None

-- the attributes of a node, by key and then by value
abbrev pub values_of : List Element → ℕ → List KeyValue
values_of set n = filter_map (value_at n) set

-- the first value of the key, which is the least where values come by key and then by value
abbrev pub first_value : ℕ → List KeyValue → Option ℕ
first_value key [] = None
first_value key (v ∷ values) = if v.key == key then Some v.value else first_value key values

-- the least value of the key at a node
abbrev pub attribute_of : List Element → ℕ → ℕ → Option ℕ
attribute_of set n key = first_value key (values_of set n)
