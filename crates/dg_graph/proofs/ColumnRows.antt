-- Worked columns and hashes, computed by the definitions.
use Rattle.std.specs.Prelude.{◌≡◌, List, [], ◌∷◌, Some, None, true, codes, refl}
use Rattle.dg_graph.specs.declared.element.Column.TheVariants as column
use Rattle.dg_graph.specs.declared.element.Element.TheVariants as element
use Rattle.dg_graph.specs.declared.event.Body.TheVariants as body
use Rattle.dg_graph.specs.declared.event.Event.{Event}
use Rattle.dg_graph.specs.Columns.{events_column, delta_column}
use Rattle.dg_graph.specs.DifferentialFunction.{fnv}

-- two nodes at the instants 10 and 20
two_nodes : events_column column.Structure
    (record { time = 10; body = body.NodeAdded 1 } ∷ record { time = 20; body = body.NodeAdded 2 } ∷ [])
    ≡ 0 ∷ 0 ∷ 0 ∷ 2 ∷ 0 ∷ 0 ∷ 0 ∷ 0 ∷ 0 ∷ 0 ∷ 0 ∷ 0 ∷ 0 ∷ 10 ∷ 1 ∷ 0 ∷ 0 ∷ 0 ∷ 0 ∷ 0 ∷ 0 ∷ 0 ∷ 1
    ∷ 0 ∷ 1 ∷ 0 ∷ 0 ∷ 0 ∷ 0 ∷ 0 ∷ 0 ∷ 0 ∷ 20 ∷ 1 ∷ 0 ∷ 0 ∷ 0 ∷ 0 ∷ 0 ∷ 0 ∷ 0 ∷ 2 ∷ []
two_nodes = refl

-- an edge at 30, and the value 1 of the key 0 at 40
edge_and_value : List Event
edge_and_value =
    record { time = 30; body = body.EdgeAdded true 5 1 2 }
    ∷ record { time = 40; body = body.NodeAttr 0 1 None (Some 1) } ∷ []

edge_column : events_column column.Structure edge_and_value
    ≡ 0 ∷ 0 ∷ 0 ∷ 1 ∷ 0 ∷ 0 ∷ 0 ∷ 0 ∷ 0 ∷ 0 ∷ 0 ∷ 0 ∷ 0 ∷ 30 ∷ 3 ∷ 0 ∷ 0 ∷ 0 ∷ 0 ∷ 0 ∷ 0 ∷ 0 ∷ 5
    ∷ 0 ∷ 0 ∷ 0 ∷ 0 ∷ 0 ∷ 0 ∷ 0 ∷ 1 ∷ 0 ∷ 0 ∷ 0 ∷ 0 ∷ 0 ∷ 0 ∷ 0 ∷ 2 ∷ 1 ∷ []
unfolding edge_and_value
edge_column = refl

value_column : events_column column.NodeAttr edge_and_value
    ≡ 0 ∷ 0 ∷ 0 ∷ 1 ∷ 0 ∷ 1 ∷ 0 ∷ 0 ∷ 0 ∷ 0 ∷ 0 ∷ 0 ∷ 0 ∷ 40 ∷ 0 ∷ 0 ∷ 0 ∷ 0 ∷ 0 ∷ 0 ∷ 0 ∷ 1
    ∷ 0 ∷ 0 ∷ 0 ∷ 0 ∷ 0 ∷ 0 ∷ 0 ∷ 0 ∷ 0 ∷ 0 ∷ 0 ∷ 2 ∷ []
unfolding edge_and_value
value_column = refl

nothing : events_column column.EdgeAttr edge_and_value ≡ []
unfolding edge_and_value
nothing = refl

-- from the empty set to two nodes
top : delta_column column.Structure (record { minus = []; plus = element.Node 1 ∷ element.Node 2 ∷ [] })
    ≡ 0 ∷ 0 ∷ 0 ∷ 0 ∷ 0 ∷ 0 ∷ 0 ∷ 2 ∷ 1 ∷ 0 ∷ 0 ∷ 0 ∷ 0 ∷ 0 ∷ 0 ∷ 0 ∷ 1 ∷ 1 ∷ 0 ∷ 0 ∷ 0 ∷ 0 ∷ 0 ∷ 0 ∷ 0 ∷ 2 ∷ []
top = refl

-- the test vectors of FNV-1a
hash_of_nothing : fnv [] ≡ 0xcbf29ce484222325
hash_of_nothing = refl

hash_of_a : fnv (codes "a") ≡ 0xaf63dc4c8601ec8c
hash_of_a = refl

hash_of_foobar : fnv (codes "foobar") ≡ 0x85944171f73967e8
hash_of_foobar = refl
