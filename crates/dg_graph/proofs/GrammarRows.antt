-- Worked columns, read by the definitions, and the offsets at which they are damaged.
use Rattle.std.specs.Prelude.{◌≡◌, List, [], ◌∷◌, ◌++◌, Some, None, Ok, Err, true, refl}
use Rattle.dg_graph.specs.declared.element.Column.TheVariants as column
use Rattle.dg_graph.specs.declared.element.Element.TheVariants as element
use Rattle.dg_graph.specs.declared.event.Body.TheVariants as body
use Rattle.dg_graph.specs.declared.event.Event.{Event}
use Rattle.dg_graph.specs.Columns.{events_column, placed_in, delta_column}
use Rattle.dg_graph.specs.Composition.{Delta}
use Rattle.dg_graph.specs.ColumnGrammar.{events_in, delta_in}

history : List Event
history =
    record { time = 10; body = body.NodeAdded 1 }
    ∷ record { time = 30; body = body.EdgeAdded true 5 1 2 }
    ∷ record { time = 40; body = body.NodeAttr 0 1 None (Some 1) }
    ∷ record { time = 50; body = body.EdgeRemoved true 5 1 2 } ∷ []

structure_back : events_in column.Structure 2 (events_column column.Structure history) ≡ Ok (placed_in column.Structure history)
unfolding history
structure_back = refl

values_back : events_in column.NodeAttr 2 (events_column column.NodeAttr history) ≡ Ok (placed_in column.NodeAttr history)
unfolding history
values_back = refl

-- with one name alone, the value's field, at offset 30, is wrong
no_such_name : events_in column.NodeAttr 1 (events_column column.NodeAttr history) ≡ Err 30
unfolding history
no_such_name = refl

byte_behind : events_in column.Structure 2 (events_column column.Structure history ++ 7 ∷ []) ≡ Err 95
unfolding history
byte_behind = refl

no_event : events_in column.Structure 2 (0 ∷ 0 ∷ 0 ∷ 0 ∷ []) ≡ Err 0
no_event = refl

cut_short : events_in column.Structure 2 (0 ∷ 0 ∷ 0 ∷ 1 ∷ 0 ∷ 0 ∷ 0 ∷ []) ≡ Err 6
cut_short = refl

wrong_kind : events_in column.Structure 2 (0 ∷ 0 ∷ 0 ∷ 1 ∷ 0 ∷ 0 ∷ 0 ∷ 0 ∷ 0 ∷ 0 ∷ 0 ∷ 0 ∷ 0 ∷ 9 ∷ 5 ∷ []) ≡ Err 14
wrong_kind = refl

-- a message from 1 to 2 with the name 0, at 20
message : List Event
message = record { time = 20; body = body.Message 1 2 0 } ∷ []

message_column : events_column column.Transient message
    ≡ 0 ∷ 0 ∷ 0 ∷ 1 ∷ 0 ∷ 0 ∷ 0 ∷ 0 ∷ 0 ∷ 0 ∷ 0 ∷ 0 ∷ 0 ∷ 20 ∷ 0 ∷ 0 ∷ 0 ∷ 0 ∷ 0 ∷ 0 ∷ 0 ∷ 1 ∷ 0 ∷ 0 ∷ 0 ∷ 0 ∷ 0 ∷ 0 ∷ 0 ∷ 2 ∷ 0 ∷ 0 ∷ 0 ∷ 0 ∷ []
unfolding message
message_column = refl

message_back : events_in column.Transient 1 (events_column column.Transient message) ≡ Ok (placed_in column.Transient message)
unfolding message
message_back = refl

message_of_no_name : events_in column.Transient 0 (events_column column.Transient message) ≡ Err 30
unfolding message
message_of_no_name = refl

no_message_in_a_delta : delta_in column.Transient 1 (0 ∷ 0 ∷ 0 ∷ 0 ∷ 0 ∷ 0 ∷ 0 ∷ 1 ∷ []) ≡ Err 0
no_message_in_a_delta = refl

one_byte_of_a_delta : delta_in column.Transient 1 (7 ∷ []) ≡ Err 0
one_byte_of_a_delta = refl

change : Delta
change = record { minus = element.Edge true 5 1 2 ∷ []; plus = element.Node 1 ∷ element.Node 2 ∷ [] }

delta_back : delta_in column.Structure 0 (delta_column column.Structure change) ≡ Ok change
unfolding change
delta_back = refl

eight_zero_bytes : delta_in column.Structure 0 (0 ∷ 0 ∷ 0 ∷ 0 ∷ 0 ∷ 0 ∷ 0 ∷ 0 ∷ []) ≡ Err 4
eight_zero_bytes = refl

falling : delta_in column.Structure 0
    (delta_column column.Structure (record { minus = []; plus = element.Node 2 ∷ element.Node 1 ∷ [] })) ≡ Err 17
falling = refl

in_both : delta_in column.Structure 0
    (delta_column column.Structure (record { minus = element.Node 1 ∷ []; plus = element.Node 1 ∷ [] })) ≡ Err 17
in_both = refl
