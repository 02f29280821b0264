-- How a change is completed to an event by the graph before it, or refused with the first reason
-- that holds.
use Rattle.std.specs.Prelude.{ℕ, Bool, false, ◌&&◌, ◌||◌, ◌==◌, not, List, Option, Some, None, Result, Ok, Err, if◌then◌else◌, find, is_some, nat_eq, option_and_then, true}
use Rattle.std.specs.Option.{option_eq}
use Rattle.std.specs.List.{list_any}
use Rattle.dg_graph.specs.declared.element.Element.{Element}
use Rattle.dg_graph.specs.declared.element.Element.TheVariants as element
use Rattle.dg_graph.specs.declared.event.Body.{Body}
use Rattle.dg_graph.specs.declared.event.Body.TheVariants as body
use Rattle.dg_graph.specs.declared.event.What.{What}
use Rattle.dg_graph.specs.declared.event.What.TheVariants.{AddNode, RemoveNode, AddEdge, RemoveEdge, SetNode, UnsetNode, SetEdge, UnsetEdge, Message}
use Rattle.dg_graph.specs.declared.event.TheConstants.{REASON_NODE_EXISTS, REASON_NO_NODE, REASON_NODE_IN_USE, REASON_EDGE_EXISTS, REASON_NO_EDGE, REASON_EDGE_IN_USE, REASON_NO_END, REASON_NO_ATTRIBUTE}
use Rattle.dg_graph.specs.Elements.{has, same}
use Rattle.dg_text.specs.Names.{is_key, name_text}

abbrev pub has_node : List Element → ℕ → Bool
has_node set id = has set (element.Node id)

abbrev pub is_edge : ℕ → Element → Bool
is_edge id (element.Edge directed n src dst) = n == id
is_edge id x = false

-- the edge of this id
abbrev pub edge_of : List Element → ℕ → Option Element
edge_of set id = find (is_edge id) set

-- the element needs this node: an edge with this end, or an attribute of the node
abbrev pub needs_node : ℕ → Element → Bool
needs_node id (element.Edge directed n src dst) = src == id || dst == id
needs_node id (element.NodeAttr n key value) = n == id
needs_node id (element.EdgeAttr n key value) = false
needs_node id _ = false

-- the element needs this edge: an attribute of it
abbrev pub needs_edge : ℕ → Element → Bool
needs_edge id (element.EdgeAttr n key value) = n == id
needs_edge id x = false

-- the removal of the edge that was found
abbrev pub edge_removal : Bool → Option Element → Result Body ℕ
edge_removal needed (Some (element.Edge directed id src dst)) = if needed then Err REASON_EDGE_IN_USE else Ok (body.EdgeRemoved directed id src dst)
edge_removal needed found = Err REASON_NO_EDGE

-- the element is a value of this key at this node, or at this edge
abbrev pub is_node_value : ℕ → ℕ → Element → Bool
is_node_value id key (element.NodeAttr n k value) = n == id && k == key
is_node_value id key x = false

abbrev pub is_edge_value : ℕ → ℕ → Element → Bool
is_edge_value id key (element.EdgeAttr n k value) = n == id && k == key
is_edge_value id key x = false

-- the value in an element, where it has one
abbrev pub value_in : Element → Option ℕ
value_in (element.NodeAttr id key value) = Some value
value_in (element.EdgeAttr id key value) = Some value
value_in _ = None

-- the value of the key at the node, and at the edge
abbrev pub node_value : List Element → ℕ → ℕ → Option ℕ
node_value set id key = option_and_then value_in (find (is_node_value id key) set)

abbrev pub edge_value : List Element → ℕ → ℕ → Option ℕ
edge_value set id key = option_and_then value_in (find (is_edge_value id key) set)

-- what takes a value away, where there is one
abbrev pub value_removal : (Option ℕ → Option ℕ → Body) → Option ℕ → Result Body ℕ
value_removal make None = Err REASON_NO_ATTRIBUTE
value_removal make (Some value) = Ok (make (Some value) None)

-- what changes, or the first reason against it
abbrev pub complete : What → List Element → Result Body ℕ
complete (AddNode id) set = if has_node set id then Err REASON_NODE_EXISTS else Ok (body.NodeAdded id)
complete (RemoveNode id) set =
    if not (has_node set id) then Err REASON_NO_NODE
    else (if list_any (needs_node id) set then Err REASON_NODE_IN_USE else Ok (body.NodeRemoved id))
complete (AddEdge directed id src dst) set =
    if is_some (edge_of set id) then Err REASON_EDGE_EXISTS
    else (if has_node set src && has_node set dst then Ok (body.EdgeAdded directed id src dst) else Err REASON_NO_END)
complete (RemoveEdge id) set = edge_removal (list_any (needs_edge id) set) (edge_of set id)
complete (SetNode id key value) set =
    if has_node set id then Ok (body.NodeAttr key id (node_value set id key) (Some value)) else Err REASON_NO_NODE
complete (UnsetNode id key) set =
    if has_node set id then value_removal (λ old new. body.NodeAttr key id old new) (node_value set id key) else Err REASON_NO_NODE
complete (SetEdge id key value) set =
    if is_some (edge_of set id) then Ok (body.EdgeAttr key id (edge_value set id key) (Some value)) else Err REASON_NO_EDGE
complete (UnsetEdge id key) set =
    if is_some (edge_of set id) then value_removal (λ old new. body.EdgeAttr key id old new) (edge_value set id key) else Err REASON_NO_EDGE
complete (Message src dst value) set =
    if has_node set src && has_node set dst then Ok (body.Message src dst value) else Err REASON_NO_END

-- the element that was found is this one
abbrev pub is_found : Option Element → Element → Bool
is_found None x = false
is_found (Some y) x = same y x

-- the value goes from the one that is there to another, or is taken away
abbrev pub is_value_change : Option ℕ → Option ℕ → Option ℕ → Bool
is_value_change there old new = option_eq nat_eq old there && (is_some old || is_some new)

-- the key of a value is a name that may be a key
abbrev pub has_key : List (List ℕ) → Body → Bool
has_key names (body.NodeAdded id) = true
has_key names (body.NodeRemoved id) = true
has_key names (body.EdgeAdded directed id src dst) = true
has_key names (body.EdgeRemoved directed id src dst) = true
has_key names (body.NodeAttr key id old new) = is_key (name_text names key)
has_key names (body.EdgeAttr key id old new) = is_key (name_text names key)
has_key names (body.Message src dst value) = true

-- whether this is what some change comes to after the set, whatever the key's text
abbrev pub is_change_of : List Element → Body → Bool
is_change_of set (body.NodeAdded id) = not (has_node set id)
is_change_of set (body.NodeRemoved id) = has_node set id && not (list_any (needs_node id) set)
is_change_of set (body.EdgeAdded directed id src dst) = not (is_some (edge_of set id)) && (has_node set src && has_node set dst)
is_change_of set (body.EdgeRemoved directed id src dst) =
    is_found (edge_of set id) (element.Edge directed id src dst) && not (list_any (needs_edge id) set)
is_change_of set (body.NodeAttr key id old new) = has_node set id && is_value_change (node_value set id key) old new
is_change_of set (body.EdgeAttr key id old new) = is_some (edge_of set id) && is_value_change (edge_value set id key) old new
is_change_of set (body.Message src dst value) = has_node set src && has_node set dst

-- whether some change comes to this after the set, in a history with these names
abbrev pub completes : List (List ℕ) → List Element → Body → Bool
completes names set b = has_key names b && is_change_of set b
