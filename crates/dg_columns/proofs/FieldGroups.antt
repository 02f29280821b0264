-- How the fields that are read one after another are read in groups.
use Rattle.std.proofs.Common.{◌≡◌, ℕ, suc, ◌+◌, List, ◌∷◌, Option, Result, Ok, Err, refl}
use Rattle.dg_graph.specs.declared.element.Column.{Column}
use Rattle.dg_graph.specs.declared.element.Column.TheVariants as column
use Rattle.dg_graph.specs.declared.event.Body.{Body}
use Rattle.dg_graph.specs.declared.event.Body.TheVariants as body
use Rattle.dg_graph.specs.declared.limits.TheConstants.{TIME_MAX}
use Rattle.dg_graph.specs.declared.placed.Placed.{Placed}
use Rattle.std.specs.Prelude.{◌==◌, ◌&&◌, not, nat_le, nat_lt}
use Rattle.dg_graph.specs.ColumnGrammar.{and_read, any_number, two_bytes, four_bytes, eight_bytes, value_of, value_fields, body_at, body_size, events_at}
use Rattle.dg_columns.specs.declared.event_fields.MessageFields.{MessageFields}
use Rattle.dg_columns.specs.declared.event_fields.ValueFields.{ValueFields}
use Rattle.dg_columns.specs.Fields.{message_fields_at, value_fields_at, placed_at}

-- ---- a value's change

value_grouped : (make : ℕ → ℕ → Option ℕ → Option ℕ → Body) (a b c : Result ℕ ℕ) (d : ℕ → Result ℕ ℕ) → and_read a (λ id. and_read b (λ key. and_read c (λ old. and_read (d old) (λ new. Ok (make id key (value_of old) (value_of new))))))
    ≡ and_read (and_read a (λ id. and_read b (λ key. and_read c (λ old. and_read (d old) (λ new. Ok (let v : ValueFields = record { id = id; key = key; old = value_of old; new = value_of new } in v)))))) (λ v. Ok (make v.id v.key v.old v.new))
value_grouped make (Err p) b c d = refl
value_grouped make (Ok id) (Err p) c d = refl
value_grouped make (Ok id) (Ok key) (Err p) d = refl
value_grouped make (Ok id) (Ok key) (Ok old) d =
    elim (d old) as (λ r. and_read r (λ new. Ok (make id key (value_of old) (value_of new)))
    ≡ and_read (and_read r (λ new. Ok (let v : ValueFields = record { id = id; key = key; old = value_of old; new = value_of new } in v))) (λ v. Ok (make v.id v.key v.old v.new))) [
      | Err p ↦ refl
      | Ok new ↦ refl
    ]

pub value_made : (make : ℕ → ℕ → Option ℕ → Option ℕ → Body) (names : ℕ) (bytes : List ℕ) (at : ℕ) → value_fields make names bytes at ≡ and_read (value_fields_at names bytes at) (λ v. Ok (make v.id v.key v.old v.new))
value_made make names bytes at =
    value_grouped make (eight_bytes any_number bytes at) (four_bytes (λ n. nat_lt n names) bytes (at + 8)) (four_bytes (λ n. nat_le n names) bytes (at + 12))
    (λ old. four_bytes (λ n. nat_le n names && not (old == 0 && n == 0)) bytes (at + 16))

-- ---- a message

message_grouped : (a b c : Result ℕ ℕ) → and_read a (λ src. and_read b (λ dst. and_read c (λ value. Ok (body.Message src dst value))))
    ≡ and_read (and_read a (λ src. and_read b (λ dst. and_read c (λ value. Ok (let m : MessageFields = record { src = src; dst = dst; value = value } in m))))) (λ m. Ok (body.Message m.src m.dst m.value))
message_grouped (Err p) b c = refl
message_grouped (Ok src) (Err p) c = refl
message_grouped (Ok src) (Ok dst) (Err p) = refl
message_grouped (Ok src) (Ok dst) (Ok value) = refl

pub message_made : (names : ℕ) (bytes : List ℕ) (at : ℕ) → body_at column.Transient names bytes at ≡ and_read (message_fields_at names bytes at) (λ m. Ok (body.Message m.src m.dst m.value))
message_made names bytes at = message_grouped (eight_bytes any_number bytes at) (eight_bytes any_number bytes (at + 8)) (four_bytes (λ n. nat_lt n names) bytes (at + 16))

-- ---- an event

event_grouped : (a b : Result ℕ ℕ) (c : Result Body ℕ) (rest : Placed → Result (List Placed) ℕ) → and_read a (λ position. and_read b (λ time. and_read c (λ what.
    let p : Placed = record { at = position; event = record { time = time; body = what } } in and_read (rest p) (λ events. Ok (p ∷ events)))))
    ≡ and_read (and_read a (λ position. and_read b (λ time. and_read c (λ what. Ok (let p : Placed = record { at = position; event = record { time = time; body = what } } in p))))) (λ p. and_read (rest p) (λ events. Ok (p ∷ events)))
event_grouped (Err p) b c rest = refl
event_grouped (Ok a) (Err p) c rest = refl
event_grouped (Ok a) (Ok b) (Err p) rest = refl
event_grouped (Ok a) (Ok b) (Ok c) rest = refl

-- what comes behind an event
abbrev pub events_after : ℕ → Column → ℕ → List ℕ → ℕ → Placed → Result (List Placed) ℕ
events_after k col names bytes at p =
    events_at k col names bytes (at + 10 + body_size p.event.body) (p.at + 1) p.event.time

pub events_step : (k : ℕ) (col : Column) (names : ℕ) (bytes : List ℕ) (at low earliest : ℕ) → events_at (suc k) col names bytes at low earliest ≡ and_read (placed_at col names bytes at low earliest) (λ p. and_read (events_after k col names bytes at p) (λ events. Ok (p ∷ events)))
events_step k col names bytes at low earliest =
    event_grouped (two_bytes (λ n. nat_le low n) bytes at) (eight_bytes (λ n. nat_le earliest n && nat_le n TIME_MAX) bytes (at + 2)) (body_at col names bytes (at + 10))
    (λ p. events_after k col names bytes at p)
