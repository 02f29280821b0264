-- What a query for a node answers.
use Rattle.std.specs.Prelude.{◌≡◌, ℕ, true, false, List, Option, Some, None}
use Rattle.dg_graph.specs.declared.element.Element.{Element}
use Rattle.dg_graph.specs.declared.element.Element.TheVariants.{Node}
use Rattle.dg_graph.specs.Elements.{has}
use Rattle.dg_query.specs.Queries.{degree_of, values_of}
use Rattle.dg_view.specs.declared.answers.NodeView.{NodeView}

-- the answer is this node of the graph, or none where the graph has no such node
abbrev pub IsNodeOf : List Element → ℕ → Option NodeView → Type 0
IsNodeOf set n None = has set (Node n) ≡ false
IsNodeOf set n (Some view) = (has set (Node n) ≡ true) × (view.degree ≡ degree_of set n) × (view.attributes.items ≡ values_of set n)
