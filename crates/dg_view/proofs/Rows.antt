-- Worked rows.
use Rattle.std.specs.Prelude.{◌≡◌, true, false, List, [], ◌∷◌, refl}
use Rattle.dg_graph.specs.declared.element.Element.{Element}
use Rattle.dg_graph.specs.declared.element.Element.TheVariants.{Node, Edge, NodeAttr, Message}
use Rattle.dg_query.specs.declared.answers.Side.TheVariants as side
use Rattle.dg_query.specs.Queries.{counts_of, neighbours_of, values_of}
use Rattle.dg_view.specs.declared.ends.EdgeEnd.{EdgeEnd}
use Rattle.dg_view.specs.EdgeEnds.{edges_ending_at}

graph : List Element
graph = Node 1 ∷ Node 2 ∷ Edge true 5 1 2 ∷ Edge true 6 2 2 ∷ Edge false 7 2 1 ∷ NodeAttr 1 0 1 ∷ NodeAttr 2 0 1 ∷ []

counted : counts_of graph ≡ record { nodes = 2; edges = 3; node_attrs = 2; edge_attrs = 0; messages = 0 }
unfolding graph
counted = refl

told : counts_of (Message 1 2 0 ∷ []) ≡ record { nodes = 0; edges = 0; node_attrs = 0; edge_attrs = 0; messages = 1 }
told = refl

beside : neighbours_of graph 2 ≡ record { edge = 5; node = 1; side = side.Inward } ∷ record { edge = 6; node = 2; side = side.Out } ∷ record { edge = 7; node = 1; side = side.Both } ∷ []
unfolding graph
beside = refl

valued : values_of graph 1 ≡ record { key = 0; value = 1 } ∷ []
unfolding graph
valued = refl

-- the edges of the graph by their ends
ends : List EdgeEnd
ends =
    record { node = 1; edge = record { edge = 5; node = 2; side = side.Out } } ∷ record { node = 1; edge = record { edge = 7; node = 2; side = side.Both } }
    ∷ record { node = 2; edge = record { edge = 5; node = 1; side = side.Inward } } ∷ record { node = 2; edge = record { edge = 6; node = 2; side = side.Out } }
    ∷ record { node = 2; edge = record { edge = 7; node = 1; side = side.Both } } ∷ []

at_1 : edges_ending_at ends 1 ≡ neighbours_of graph 1
unfolding graph ends
at_1 = refl

at_2 : edges_ending_at ends 2 ≡ neighbours_of graph 2
unfolding graph ends
at_2 = refl

at_3 : edges_ending_at ends 3 ≡ neighbours_of graph 3
unfolding graph ends
at_3 = refl
