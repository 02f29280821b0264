-- The fields of events and elements, as groups that are read and written together.
use Rattle.std.specs.Prelude.{ℕ, ◌+◌, ◌&&◌, ◌==◌, not, List, [], ◌∷◌, ◌++◌, Option, Result, Ok, Err, if◌then◌else◌, nat_lt, nat_le}
use Rattle.dg_graph.specs.declared.element.Column.{Column}
use Rattle.dg_graph.specs.declared.element.Element.{Element}
use Rattle.dg_graph.specs.declared.limits.TheConstants.{TIME_MAX}
use Rattle.dg_graph.specs.declared.placed.Placed.{Placed}
use Rattle.dg_graph.specs.Columns.{four, eight, value_bytes}
use Rattle.dg_graph.specs.Elements.{bit, has}
use Rattle.dg_graph.specs.ColumnGrammar.{and_read, any_number, one_byte, two_bytes, four_bytes, eight_bytes, value_of, body_at, element_at, rises_from}
use Rattle.dg_columns.specs.declared.delta_reader.AttrFields.{AttrFields}
use Rattle.dg_columns.specs.declared.edge.EdgeFields.{EdgeFields}
use Rattle.dg_columns.specs.declared.event_fields.MessageFields.{MessageFields}
use Rattle.dg_columns.specs.declared.event_fields.ValueFields.{ValueFields}

-- an edge, from the offset on
abbrev pub edge_fields_at : List ℕ → ℕ → Result EdgeFields ℕ
edge_fields_at bytes at =
    and_read (eight_bytes any_number bytes at) (λ id.
    and_read (eight_bytes any_number bytes (at + 8)) (λ src.
    and_read (eight_bytes any_number bytes (at + 16)) (λ dst.
    and_read (one_byte (λ n. nat_le 0 n && nat_le n 1) bytes (at + 24)) (λ directed.
    Ok (record { id = id; src = src; dst = dst; directed = directed == 1 })))))

-- a value's change, from the offset on
abbrev pub value_fields_at : ℕ → List ℕ → ℕ → Result ValueFields ℕ
value_fields_at names bytes at =
    and_read (eight_bytes any_number bytes at) (λ id.
    and_read (four_bytes (λ n. nat_lt n names) bytes (at + 8)) (λ key.
    and_read (four_bytes (λ n. nat_le n names) bytes (at + 12)) (λ old.
    and_read (four_bytes (λ n. nat_le n names && not (old == 0 && n == 0)) bytes (at + 16)) (λ new.
    Ok (record { id = id; key = key; old = value_of old; new = value_of new })))))

-- a message, from the offset on
abbrev pub message_fields_at : ℕ → List ℕ → ℕ → Result MessageFields ℕ
message_fields_at names bytes at =
    and_read (eight_bytes any_number bytes at) (λ src.
    and_read (eight_bytes any_number bytes (at + 8)) (λ dst.
    and_read (four_bytes (λ n. nat_lt n names) bytes (at + 16)) (λ value. Ok (record { src = src; dst = dst; value = value }))))

-- an event and its position, from the offset on, neither below what is given
abbrev pub placed_at : Column → ℕ → List ℕ → ℕ → ℕ → ℕ → Result Placed ℕ
placed_at col names bytes at low earliest =
    and_read (two_bytes (λ n. nat_le low n) bytes at) (λ position.
    and_read (eight_bytes (λ n. nat_le earliest n && nat_le n TIME_MAX) bytes (at + 2)) (λ time.
    and_read (body_at col names bytes (at + 10)) (λ what.
    Ok (record { at = position; event = record { time = time; body = what } }))))

-- a value, from the offset on
abbrev pub attr_at : ℕ → List ℕ → ℕ → Result AttrFields ℕ
attr_at names bytes at =
    and_read (eight_bytes any_number bytes at) (λ id.
    and_read (four_bytes (λ n. nat_lt n names) bytes (at + 8)) (λ key.
    and_read (four_bytes (λ n. nat_lt n names) bytes (at + 12)) (λ value.
    Ok (record { id = id; key = key; value = value }))))

-- an element from the offset on that comes after the last one, and is in none of the others
abbrev pub next_element_at : Column → ℕ → List ℕ → List Element → ℕ → Option Element → Result Element ℕ
next_element_at col names bytes others at last =
    and_read (element_at col names bytes at) (λ x. if rises_from last x && not (has others x) then Ok x else Err at)

-- the bytes of a node, of an edge and of a value's change
abbrev pub node_bytes : ℕ → ℕ → List ℕ
node_bytes kind id = kind ∷ eight id

abbrev pub edge_bytes : ℕ → EdgeFields → List ℕ
edge_bytes kind e = kind ∷ (eight e.id ++ (eight e.src ++ (eight e.dst ++ bit e.directed ∷ [])))

abbrev pub value_field_bytes : ValueFields → List ℕ
value_field_bytes v = eight v.id ++ (four v.key ++ (value_bytes v.old ++ value_bytes v.new))
