-- The columns of the index file, each with its one spelling.
use Rattle.std.specs.Prelude.{ℕ, ◌+◌, Bool, true, false, List, [], ◌∷◌, ◌++◌, Option, Some, None, length, filter}
use Rattle.std.specs.Int.{to_be_bytes, w16, w32, w64}
use Rattle.std.specs.List.{flat_map}
use Rattle.dg_graph.specs.declared.element.Column.{Column}
use Rattle.dg_graph.specs.declared.element.Column.TheVariants as column
use Rattle.dg_graph.specs.declared.element.Element.{Element}
use Rattle.dg_graph.specs.declared.element.Element.TheVariants as element
use Rattle.dg_graph.specs.declared.event.Body.{Body}
use Rattle.dg_graph.specs.declared.event.Body.TheVariants as body
use Rattle.dg_graph.specs.declared.event.Event.{Event}
use Rattle.dg_graph.specs.declared.placed.Placed.{Placed}
use Rattle.dg_graph.specs.Elements.{bit, column_of}
use Rattle.dg_graph.specs.Composition.{Delta}

-- numbers of two, four and eight bytes, the high byte first
abbrev pub two : ℕ → List ℕ
two n = to_be_bytes w16 n

abbrev pub four : ℕ → List ℕ
four n = to_be_bytes w32 n

abbrev pub eight : ℕ → List ℕ
eight n = to_be_bytes w64 n

abbrev pub same_column : Column → Column → Bool
same_column column.Structure column.Structure = true
same_column column.NodeAttr column.NodeAttr = true
same_column column.EdgeAttr column.EdgeAttr = true
same_column column.Transient column.Transient = true
same_column a b = false

-- an element in its column
abbrev pub element_bytes : Element → List ℕ
element_bytes (element.Node id) = 1 ∷ eight id
element_bytes (element.Edge directed id src dst) = 2 ∷ (eight id ++ (eight src ++ (eight dst ++ bit directed ∷ [])))
element_bytes (element.NodeAttr id key value) = eight id ++ (four key ++ four value)
element_bytes (element.EdgeAttr id key value) = eight id ++ (four key ++ four value)
element_bytes (element.Message src dst value) = eight src ++ (eight dst ++ four value)

-- a count and the elements
abbrev pub part_bytes : List Element → List ℕ
part_bytes set = four (length set) ++ flat_map element_bytes set

abbrev pub in_column : Column → List Element → List Element
in_column col set = filter (λ x. same_column (column_of x) col) set

-- nothing where both parts are empty
abbrev pub parts_bytes : List Element → List Element → List ℕ
parts_bytes [] [] = []
parts_bytes [] (y ∷ plus) = part_bytes [] ++ part_bytes (y ∷ plus)
parts_bytes (x ∷ minus) plus = part_bytes (x ∷ minus) ++ part_bytes plus

-- a delta's column: the elements of minus, and then those of plus
abbrev pub delta_column : Column → Delta → List ℕ
delta_column col d = parts_bytes (in_column col d.minus) (in_column col d.plus)

-- the column in which an event stands
abbrev pub column_of_body : Body → Column
column_of_body (body.NodeAdded id) = column.Structure
column_of_body (body.NodeRemoved id) = column.Structure
column_of_body (body.EdgeAdded directed id src dst) = column.Structure
column_of_body (body.EdgeRemoved directed id src dst) = column.Structure
column_of_body (body.NodeAttr key id old new) = column.NodeAttr
column_of_body (body.EdgeAttr key id old new) = column.EdgeAttr
column_of_body (body.Message src dst value) = column.Transient

-- a value's name, one more than its number, or 0 for none
abbrev pub value_bytes : Option ℕ → List ℕ
value_bytes None = four 0
value_bytes (Some n) = four (n + 1)

-- an event after its position and time
abbrev pub body_bytes : Body → List ℕ
body_bytes (body.NodeAdded id) = 1 ∷ eight id
body_bytes (body.NodeRemoved id) = 2 ∷ eight id
body_bytes (body.EdgeAdded directed id src dst) = 3 ∷ (eight id ++ (eight src ++ (eight dst ++ bit directed ∷ [])))
body_bytes (body.EdgeRemoved directed id src dst) = 4 ∷ (eight id ++ (eight src ++ (eight dst ++ bit directed ∷ [])))
body_bytes (body.NodeAttr key id old new) = eight id ++ (four key ++ (value_bytes old ++ value_bytes new))
body_bytes (body.EdgeAttr key id old new) = eight id ++ (four key ++ (value_bytes old ++ value_bytes new))
body_bytes (body.Message src dst value) = eight src ++ (eight dst ++ four value)

-- the events with their positions, from n on
abbrev pub placed_from : ℕ → List Event → List Placed
placed_from n [] = []
placed_from n (e ∷ events) = record { at = n; event = e } ∷ placed_from (n + 1) events

abbrev pub placed_bytes : Placed → List ℕ
placed_bytes p = two p.at ++ (eight p.event.time ++ body_bytes p.event.body)

-- nothing where there is no event
abbrev pub counted : List Placed → List ℕ
counted [] = []
counted (p ∷ more) = four (length (p ∷ more)) ++ flat_map placed_bytes (p ∷ more)

-- the events of one column, with their positions among all of them
abbrev pub placed_in : Column → List Event → List Placed
placed_in col events = filter (λ p. same_column (column_of_body p.event.body) col) (placed_from 0 events)

-- the column of a list of events
abbrev pub events_column : Column → List Event → List ℕ
events_column col events = counted (placed_in col events)
