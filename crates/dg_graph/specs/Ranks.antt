-- The first two numbers by which elements are ordered. They tell most elements apart.
use Rattle.std.specs.Prelude.{ℕ}
use Rattle.dg_graph.specs.declared.element.Element.{Element}
use Rattle.dg_graph.specs.declared.element.Element.TheVariants.{Node, Edge, NodeAttr, EdgeAttr, Message}

-- the place of an element's kind in the order of kinds
abbrev pub kind_of : Element → ℕ
kind_of (Node id) = 0
kind_of (Edge directed id src dst) = 1
kind_of (NodeAttr id key value) = 2
kind_of (EdgeAttr id key value) = 3
kind_of (Message src dst value) = 4

-- the first of its own numbers
abbrev pub first_of : Element → ℕ
first_of (Node id) = id
first_of (Edge directed id src dst) = id
first_of (NodeAttr id key value) = id
first_of (EdgeAttr id key value) = id
first_of (Message src dst value) = src
