-- What the bytes of a column are read as, or the offset of the first field that does not fit in the
-- bytes or breaks a rule together with the fields before it.
use Rattle.std.specs.Prelude.{ℕ, zero, suc, ◌+◌, ◌-◌, ◌==◌, ◌&&◌, Bool, true, false, not, List, [], ◌∷◌, Option, Some, None, Result, Ok, Err, if◌then◌else◌, length, take, drop, nat_lt, nat_le}
use Rattle.std.specs.Int.{from_be_bytes, w8, w16, w32, w64}
use mir.Syntax.{Width}
use Rattle.dg_graph.specs.declared.element.Column.{Column}
use Rattle.dg_graph.specs.declared.element.Column.TheVariants as column
use Rattle.dg_graph.specs.declared.element.Element.{Element}
use Rattle.dg_graph.specs.declared.element.Element.TheVariants as element
use Rattle.dg_graph.specs.declared.event.Body.{Body}
use Rattle.dg_graph.specs.declared.event.Body.TheVariants as body
use Rattle.dg_graph.specs.declared.limits.TheConstants.{TIME_MAX}
use Rattle.dg_graph.specs.declared.placed.Placed.{Placed}
use Rattle.dg_graph.specs.Composition.{Delta}
use Rattle.dg_graph.specs.Elements.{before, has}

-- the first result, and then what follows from it
abbrev pub and_read : {A B : Type 0} → Result A ℕ → (A → Result B ℕ) → Result B ℕ
and_read (Ok x) next = next x
and_read (Err offset) next = Err offset

-- the number of w bytes at the offset, where it fits in the bytes and is right
abbrev pub field : Width → ℕ → (ℕ → Bool) → List ℕ → ℕ → Result ℕ ℕ
field width w right bytes at =
    if nat_lt (length bytes) (at + w) then Err at
    else (let n = from_be_bytes width (take w (drop at bytes)) in if right n then Ok n else Err at)

abbrev pub any_number : ℕ → Bool
any_number n = true

abbrev pub one_byte : (ℕ → Bool) → List ℕ → ℕ → Result ℕ ℕ
one_byte right bytes at = field w8 1 right bytes at

abbrev pub two_bytes : (ℕ → Bool) → List ℕ → ℕ → Result ℕ ℕ
two_bytes right bytes at = field w16 2 right bytes at

abbrev pub four_bytes : (ℕ → Bool) → List ℕ → ℕ → Result ℕ ℕ
four_bytes right bytes at = field w32 4 right bytes at

abbrev pub eight_bytes : (ℕ → Bool) → List ℕ → ℕ → Result ℕ ℕ
eight_bytes right bytes at = field w64 8 right bytes at

-- an id, a source, a destination, and whether the edge is directed, from the offset on
abbrev pub edge_fields : {B : Type 0} → (ℕ → ℕ → ℕ → Bool → B) → List ℕ → ℕ → Result B ℕ
edge_fields make bytes at =
    and_read (eight_bytes any_number bytes at) (λ id.
    and_read (eight_bytes any_number bytes (at + 8)) (λ src.
    and_read (eight_bytes any_number bytes (at + 16)) (λ dst.
    and_read (one_byte (λ n. nat_lt n 2) bytes (at + 24)) (λ directed. Ok (make id src dst (directed == 1))))))

-- the value that four bytes spell: none, or the name of the number less 1
abbrev pub value_of : ℕ → Option ℕ
value_of n = if n == 0 then None else Some (n - 1)

-- what an event changes, of a value, from the offset on
abbrev pub value_fields : (ℕ → ℕ → Option ℕ → Option ℕ → Body) → ℕ → List ℕ → ℕ → Result Body ℕ
value_fields make names bytes at =
    and_read (eight_bytes any_number bytes at) (λ id.
    and_read (four_bytes (λ n. nat_lt n names) bytes (at + 8)) (λ key.
    and_read (four_bytes (λ n. nat_le n names) bytes (at + 12)) (λ old.
    and_read (four_bytes (λ n. nat_le n names && not (old == 0 && n == 0)) bytes (at + 16)) (λ new.
    Ok (make id key (value_of old) (value_of new))))))

-- what an event changes, in structure, after its kind
abbrev pub structure_body : ℕ → List ℕ → ℕ → Result Body ℕ
structure_body kind bytes at =
    if kind == 1 then and_read (eight_bytes any_number bytes at) (λ id. Ok (body.NodeAdded id))
    else (if kind == 2 then and_read (eight_bytes any_number bytes at) (λ id. Ok (body.NodeRemoved id))
    else (if kind == 3 then edge_fields (λ id src dst directed. body.EdgeAdded directed id src dst) bytes at
    else edge_fields (λ id src dst directed. body.EdgeRemoved directed id src dst) bytes at))

abbrev pub body_at : Column → ℕ → List ℕ → ℕ → Result Body ℕ
body_at column.Structure names bytes at =
    and_read (one_byte (λ n. nat_le 1 n && nat_le n 4) bytes at) (λ kind. structure_body kind bytes (at + 1))
body_at column.NodeAttr names bytes at = value_fields (λ id key old new. body.NodeAttr key id old new) names bytes at
body_at column.EdgeAttr names bytes at = value_fields (λ id key old new. body.EdgeAttr key id old new) names bytes at
body_at column.Transient names bytes at =
    and_read (eight_bytes any_number bytes at) (λ src.
    and_read (eight_bytes any_number bytes (at + 8)) (λ dst.
    and_read (four_bytes (λ n. nat_lt n names) bytes (at + 16)) (λ value. Ok (body.Message src dst value))))

-- the bytes that a body takes
abbrev pub body_size : Body → ℕ
body_size (body.NodeAdded id) = 9
body_size (body.NodeRemoved id) = 9
body_size (body.EdgeAdded directed id src dst) = 26
body_size (body.EdgeRemoved directed id src dst) = 26
body_size (body.NodeAttr key id old new) = 20
body_size (body.EdgeAttr key id old new) = 20
body_size (body.Message src dst value) = 20

-- the end: no byte stands behind the last field
abbrev pub end_at : {A : Type 0} → A → List ℕ → ℕ → Result A ℕ
end_at x bytes at = if length bytes == at then Ok x else Err at

-- So many events from the offset on. Positions rise strictly, and are not below `low`; times do not
-- fall, and are not before `earliest`.
abbrev pub events_at : ℕ → Column → ℕ → List ℕ → ℕ → ℕ → ℕ → Result (List Placed) ℕ
events_at zero col names bytes at low earliest = end_at [] bytes at
events_at (suc k) col names bytes at low earliest =
    and_read (two_bytes (λ n. nat_le low n) bytes at) (λ position.
    and_read (eight_bytes (λ n. nat_le earliest n && nat_le n TIME_MAX) bytes (at + 2)) (λ time.
    and_read (body_at col names bytes (at + 10)) (λ what.
    and_read (events_at k col names bytes (at + 10 + body_size what) (position + 1) time) (λ events.
    Ok (record { at = position; event = record { time = time; body = what } } ∷ events)))))

-- what the bytes of an event column are read as, with so many names; or the offset of the damage
abbrev pub events_in : Column → ℕ → List ℕ → Result (List Placed) ℕ
events_in col names [] = Ok []
events_in col names (b ∷ bytes) =
    and_read (four_bytes (λ n. nat_le 1 n) (b ∷ bytes) 0) (λ count. events_at count col names (b ∷ bytes) 4 0 0)

-- a value's element, from the offset on
abbrev pub value_element : (ℕ → ℕ → ℕ → Element) → ℕ → List ℕ → ℕ → Result Element ℕ
value_element make names bytes at =
    and_read (eight_bytes any_number bytes at) (λ id.
    and_read (four_bytes (λ n. nat_lt n names) bytes (at + 8)) (λ key.
    and_read (four_bytes (λ n. nat_lt n names) bytes (at + 12)) (λ value. Ok (make id key value))))

abbrev pub element_at : Column → ℕ → List ℕ → ℕ → Result Element ℕ
element_at column.Structure names bytes at =
    and_read (one_byte (λ n. nat_le 1 n && nat_le n 2) bytes at) (λ kind.
    if kind == 1 then and_read (eight_bytes any_number bytes (at + 1)) (λ id. Ok (element.Node id))
    else edge_fields (λ id src dst directed. element.Edge directed id src dst) bytes (at + 1))
element_at column.NodeAttr names bytes at = value_element (λ id key value. element.NodeAttr id key value) names bytes at
element_at column.EdgeAttr names bytes at = value_element (λ id key value. element.EdgeAttr id key value) names bytes at
element_at column.Transient names bytes at = Err at

-- the bytes that an element takes
abbrev pub element_size : Element → ℕ
element_size (element.Node id) = 9
element_size (element.Edge directed id src dst) = 26
element_size (element.NodeAttr id key value) = 16
element_size (element.EdgeAttr id key value) = 16
element_size (element.Message src dst value) = 20

-- the element comes after the one before it, if there is one
abbrev pub rises_from : Option Element → Element → Bool
rises_from None x = true
rises_from (Some last) x = before last x

-- So many elements from the offset on, each after the one before it and in none of `others`; and the
-- offset behind them. An element that is wrong only in this breaks the rule at its first byte.
abbrev pub elements_at : ℕ → Column → ℕ → List ℕ → List Element → ℕ → Option Element → Result (List Element × ℕ) ℕ
elements_at zero col names bytes others at last = Ok ([], at)
elements_at (suc k) col names bytes others at last =
    and_read (element_at col names bytes at) (λ x.
    if rises_from last x && not (has others x)
    then and_read (elements_at k col names bytes others (at + element_size x) (Some x)) (λ more. Ok (x ∷ more.0, more.1))
    else Err at)

-- a delta may have elements in the column: messages are in none
abbrev pub may_change : Column → Bool
may_change column.Structure = true
may_change column.NodeAttr = true
may_change column.EdgeAttr = true
may_change column.Transient = false

-- what the bytes are read as where a delta may have elements in the column
abbrev pub changes_in : Column → ℕ → List ℕ → Result Delta ℕ
changes_in col names [] = Ok (record { minus = []; plus = [] })
changes_in col names (b ∷ bytes) =
    and_read (four_bytes any_number (b ∷ bytes) 0) (λ out.
    and_read (elements_at out col names (b ∷ bytes) [] 4 None) (λ minus.
    and_read (four_bytes (λ n. not (out == 0 && n == 0)) (b ∷ bytes) minus.1) (λ in_count.
    and_read (elements_at in_count col names (b ∷ bytes) minus.0 (minus.1 + 4) None) (λ plus.
    end_at (record { minus = minus.0; plus = plus.0 }) (b ∷ bytes) plus.1))))

-- and where it has none
abbrev pub no_changes_in : List ℕ → Result Delta ℕ
no_changes_in [] = Ok (record { minus = []; plus = [] })
no_changes_in (b ∷ bytes) = Err 0

-- what the bytes of a delta's column are read as, with so many names; or the offset of the damage
abbrev pub delta_in : Column → ℕ → List ℕ → Result Delta ℕ
delta_in col names bytes = if may_change col then changes_in col names bytes else no_changes_in bytes
