-- The nodes of a graph that have a value, and how often events add one.
use Rattle.std.specs.Prelude.{ℕ, Bool, false, ◌==◌, ◌&&◌, List, Option, Some, None, count_by, filter_map, if◌then◌else◌}
use Rattle.dg_graph.specs.declared.element.Element.{Element}
use Rattle.dg_graph.specs.declared.element.Element.TheVariants as element
use Rattle.dg_graph.specs.declared.event.Event.{Event}
use Rattle.dg_graph.specs.Effect.{added_by}

-- the node that has this value of the key, if the element says so of one
abbrev pub node_with : ℕ → ℕ → Element → Option ℕ
node_with key value (element.NodeAttr id k v) = if k == key && v == value then Some id else None
node_with key value x = None

-- the nodes of the graph that have this value of the key, by their ids
abbrev pub nodes_with : ℕ → ℕ → List Element → List ℕ
nodes_with key value graph = filter_map (node_with key value) graph

-- the element is a value of the key at some node
abbrev pub is_value_of : ℕ → Option Element → Bool
is_value_of key (Some (element.NodeAttr id k value)) = k == key
is_value_of key x = false

-- how many of the events add a value of the key at some node
abbrev pub additions_of : ℕ → List Event → ℕ
additions_of key events = count_by (λ e. is_value_of key (added_by e.body)) events
