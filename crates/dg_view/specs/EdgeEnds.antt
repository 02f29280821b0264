-- The edges of a graph by their ends.
use Rattle.std.specs.Prelude.{◌≡◌, ℕ, ◌==◌, List, map, filter}
use Rattle.std.specs.List.Sorted.{IsNonDecreasingBy}
use Rattle.dg_graph.specs.declared.element.Element.{Element}
use Rattle.dg_query.specs.declared.answers.Neighbour.{Neighbour}
use Rattle.dg_query.specs.Queries.{neighbours_of}
use Rattle.dg_view.specs.declared.ends.EdgeEnd.{EdgeEnd}

-- the edges that have an end at the node, in their order
abbrev pub edges_ending_at : List EdgeEnd → ℕ → List Neighbour
edges_ending_at ends n = map (λ (end : EdgeEnd). end.edge) (filter (λ (end : EdgeEnd). end.node == n) ends)

-- at each node they are the edges of the set there, by their ids
abbrev pub IsAdjacencyOf : List Element → List EdgeEnd → Type 0
IsAdjacencyOf set ends = (n : ℕ) → edges_ending_at ends n ≡ neighbours_of set n

-- they stand in the order of their nodes
abbrev pub RiseByNode : List EdgeEnd → Type 0
RiseByNode ends = IsNonDecreasingBy (λ (end : EdgeEnd). end.node) ends
