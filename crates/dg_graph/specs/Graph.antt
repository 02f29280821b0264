-- Which sets of elements are graphs.
use Rattle.std.specs.Prelude.{◌≡◌, ℕ, Bool, true, false, ◌&&◌, List, is_some}
use Rattle.dg_graph.specs.declared.element.Element.{Element}
use Rattle.dg_graph.specs.declared.element.Element.TheVariants as element
use Rattle.dg_graph.specs.Completion.{has_node, edge_of}
use Rattle.dg_graph.specs.Elements.{has, IsSet}

-- what an element needs of the set that it is in: an edge its two ends, a value its node or edge; a message is in
-- no graph
abbrev pub has_needs : List Element → Element → Bool
has_needs set (element.Node id) = true
has_needs set (element.Edge directed id src dst) = has_node set src && has_node set dst
has_needs set (element.NodeAttr id key value) = has_node set id
has_needs set (element.EdgeAttr id key value) = is_some (edge_of set id)
has_needs set (element.Message src dst value) = false

-- A set is a graph where each element has what it needs, no two edges have one id, and no node or edge
-- has two values of one key.
pub record IsGraph (set : List Element) : Type 0 where
  pub rises : IsSet set
  pub needs : (x : Element) → has set x ≡ true → has_needs set x ≡ true
  pub one_edge : (id src dst other_src other_dst : ℕ) (directed other_directed : Bool)
      → has set (element.Edge directed id src dst) ≡ true → has set (element.Edge other_directed id other_src other_dst) ≡ true
      → element.Edge directed id src dst ≡ element.Edge other_directed id other_src other_dst
  pub one_node_value : (id key value other : ℕ) → has set (element.NodeAttr id key value) ≡ true
      → has set (element.NodeAttr id key other) ≡ true → value ≡ other
  pub one_edge_value : (id key value other : ℕ) → has set (element.EdgeAttr id key value) ≡ true
      → has set (element.EdgeAttr id key other) ≡ true → value ≡ other
