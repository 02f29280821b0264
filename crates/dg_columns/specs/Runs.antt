-- Elements of one kind that stand one after another.
use Rattle.std.specs.Prelude.{ℕ, Bool, Option, if◌then◌else◌}
use Rattle.std.specs.Option.{option_map, option_or}
use Rattle.dg_graph.specs.declared.element.Column.{Column}
use Rattle.dg_graph.specs.declared.element.Column.TheVariants as column
use Rattle.dg_graph.specs.declared.element.Element.{Element}
use Rattle.dg_graph.specs.declared.element.Element.TheVariants as element
use Rattle.dg_columns.specs.declared.delta_reader.AttrFields.{AttrFields}
use Rattle.dg_columns.specs.declared.edge.EdgeFields.{EdgeFields}

abbrev pub node_of : ℕ → Element
node_of id = element.Node id

abbrev pub edge_of : EdgeFields → Element
edge_of e = element.Edge e.directed e.id e.src e.dst

-- a value of an edge, or of a node
abbrev pub value_of : Bool → AttrFields → Element
value_of of_edge v = if of_edge then element.EdgeAttr v.id v.key v.value else element.NodeAttr v.id v.key v.value

-- and the column in which it stands
abbrev pub value_column : Bool → Column
value_column of_edge = if of_edge then column.EdgeAttr else column.NodeAttr

-- the last element of some nodes, of edges behind nodes, and of values
abbrev pub last_node : Option ℕ → Option Element
last_node node = option_map node_of node

abbrev pub last_edge : Option ℕ → Option EdgeFields → Option Element
last_edge node edge = option_or (option_map edge_of edge) (last_node node)

abbrev pub last_value : Bool → Option AttrFields → Option Element
last_value of_edge v = option_map (value_of of_edge) v
