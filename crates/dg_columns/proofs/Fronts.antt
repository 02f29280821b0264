-- A column that is longer than events can be is damaged, and its front shows it.
use Rattle.std.proofs.Common.{◌≡◌, ℕ, zero, suc, ◌+◌, ◌*◌, ◌<◌, ◌≤◌, Bool, ltb, List, [], ◌∷◌, length, take, drop, Result, Ok, Err, refl, sym, ap, subst, ◌∙◌, arith, inl, inr}
use Rattle.std.specs.Prelude.{◌&&◌, ◌==◌, nat_le}
use Rattle.std.specs.Int.{w16, from_be_bytes}
use Rattle.std.proofs.lemmas.Bool.{cases_lt, leb-true, eqb-true}
use Rattle.std.proofs.lemmas.List.{get_or-drop, get_or-take, get_or_past, length-take, take_all}
use Rattle.dg_graph.specs.declared.element.Column.{Column}
use Rattle.dg_graph.specs.declared.event.Body.{Body}
use Rattle.dg_graph.specs.declared.event.Body.TheVariants as body
use Rattle.dg_graph.specs.declared.limits.TheConstants.{TIME_MAX}
use Rattle.dg_graph.specs.declared.placed.Placed.{Placed}
use Rattle.dg_graph.specs.ColumnGrammar.{and_read, two_bytes, four_bytes, eight_bytes, body_at, body_size, events_at, events_in}
use Rattle.dg_columns.specs.ColumnLaws.{AreBytes}
use Rattle.dg_columns.specs.Fronts.{IsToldByFront, front_of}
use Rattle.dg_columns.specs.declared.layout.TheConstants.{EVENTS_FRONT}
use Rattle.dg_columns.proofs.FieldElements.{bind_ok, passed}
use Rattle.dg_columns.proofs.Fields.{IsBytes, bytes_from_all, field_ok}
use Rattle.dg_columns.proofs.ReadFitsEvents.{right_is}

bound2 : (bs : List ℕ) → IsBytes bs → from_be_bytes w16 bs < 65536
bound2 bs h = omega (arith, h 0, h 1)

body_short : (b : Body) → body_size b ≤ 26
body_short (body.NodeAdded id) = omega arith
body_short (body.NodeRemoved id) = omega arith
body_short (body.EdgeAdded directed id src dst) = omega arith
body_short (body.EdgeRemoved directed id src dst) = omega arith
body_short (body.NodeAttr key id old new) = omega arith
body_short (body.EdgeAttr key id old new) = omega arith
body_short (body.Message src dst value) = omega arith

-- two bytes of the front are bytes
two_inside : (bytes : List ℕ) (n at : ℕ) → IsBytes (take n bytes) → at + 2 ≤ n → IsBytes (take 2 (drop at bytes))
two_inside bytes n at fits le i =
    elim (cases_lt i 2) [
      | inl lt ↦ rw (get_or-take 2 (drop at bytes) i 0 lt) (rw get_or-drop (rw (sym (get_or-take n bytes (at + i) 0 (omega (arith, lt, le)))) (fits (at + i))))
      | inr past ↦ rw (get_or_past (take 2 (drop at bytes)) i 0 (omega (arith, past, length-take 2 (drop at bytes)))) (omega arith)
    ]

-- a position in the front has two bytes
position_bound : (bytes : List ℕ) (n low at position : ℕ) → IsBytes (take n bytes) → at + 2 ≤ n → two_bytes (λ m. nat_le low m) bytes at ≡ Ok position → position < 65536
position_bound bytes n low at position fits le e =
    let v = from_be_bytes w16 (take 2 (drop at bytes)) in
    let g = field_ok (ltb (length bytes) (at + 2)) (nat_le low v) at v position e in
    subst (λ m. m < 65536) g.2 (bound2 (take 2 (drop at bytes)) (two_inside bytes n at fits le))

-- so many bytes are read as no events: each event has a position of its own
none_read : (k : ℕ) (col : Column) (names : ℕ) (bytes : List ℕ) (at low earliest : ℕ) (placed : List Placed) → IsBytes (take EVENTS_FRONT bytes) → EVENTS_FRONT ≤ length bytes → low ≤ 65536 → at ≤ 4 + 36 * low
    → events_at k col names bytes at low earliest ≡ Ok placed → ⊥
none_read zero col names bytes at low earliest placed fits long most le e =
    let nothing : List Placed = [] in
    let same : length bytes ≡ at = eqb-true (length bytes) at (passed (length bytes == at) at nothing placed e).0 in
    omega (arith, same, long, most, le)
none_read (suc k) col names bytes at low earliest placed fits long most le e =
    let is_low : ℕ → Bool = λ n. nat_le low n in
    let is_time : ℕ → Bool = λ n. nat_le earliest n && nat_le n TIME_MAX in
    let make : ℕ → ℕ → Body → List Placed → Result (List Placed) ℕ = λ position time what events. Ok (record { at = position; event = record { time = time; body = what } } ∷ events) in
    let rest : ℕ → ℕ → Body → Result (List Placed) ℕ = λ position time what. events_at k col names bytes (at + 10 + body_size what) (position + 1) time in
    let a = bind_ok (two_bytes is_low bytes at) (λ position. and_read (eight_bytes is_time bytes (at + 2)) (λ time. and_read (body_at col names bytes (at + 10)) (λ what. and_read (rest position time what) (make position time what)))) placed e in
    let b = bind_ok (eight_bytes is_time bytes (at + 2)) (λ time. and_read (body_at col names bytes (at + 10)) (λ what. and_read (rest a.0 time what) (make a.0 time what))) placed a.2 in
    let c = bind_ok (body_at col names bytes (at + 10)) (λ what. and_read (rest a.0 b.0 what) (make a.0 b.0 what)) placed b.2 in
    let d = bind_ok (rest a.0 b.0 c.0) (make a.0 b.0 c.0) placed c.2 in
    let position : ℕ = a.0 in
    let low_is : low ≤ position = leb-true low position (right_is w16 2 is_low bytes at position a.1) in
    let below : position < 65536 = position_bound bytes EVENTS_FRONT low at position fits (omega (arith, most, le)) a.1 in
    let size = body_short c.0 in
    none_read k col names bytes (at + 10 + body_size c.0) (position + 1) b.0 d.0 fits long (omega (arith, below)) (omega (arith, low_is, size, le)) d.1

long_fails : (col : Column) (names : ℕ) (bytes : List ℕ) (placed : List Placed) → IsBytes (take EVENTS_FRONT bytes) → EVENTS_FRONT ≤ length bytes → events_in col names bytes ≡ Ok placed → ⊥
long_fails col names [] placed fits long e = omega (arith, long)
long_fails col names (b ∷ bytes) placed fits long e =
    let c = bind_ok (four_bytes (λ n. nat_le 1 n) (b ∷ bytes) 0) (λ count. events_at count col names (b ∷ bytes) 4 0 0) placed e in
    none_read c.0 col names (b ∷ bytes) 4 0 0 placed fits long (omega arith) (omega arith) c.2

-- what is not read as events is damaged
no_events : (read : Result (List Placed) ℕ) → ((placed : List Placed) → read ≡ Ok placed → ⊥) → (n : ℕ) × (read ≡ Err n)
no_events (Ok placed) h = absurd (h placed refl)
no_events (Err n) h = (n, refl)

pub told_by_front : (col : Column) (names : ℕ) (front whole : List ℕ) → AreBytes front → front ≡ front_of whole → IsToldByFront col names front whole
told_by_front col names front whole fits is =
    let inside : IsBytes (take EVENTS_FRONT whole) = subst IsBytes is (bytes_from_all front fits) in
    elim (cases_lt (length whole) EVENTS_FRONT) [
      | inl lt ↦
          let same : front ≡ whole = is ∙ take_all EVENTS_FRONT whole (omega (arith, lt)) in
          record { all = λ placed e. same; damaged = λ m e. (m, ap (events_in col names) (sym same) ∙ e) }
      | inr long ↦
          let front_long : EVENTS_FRONT ≤ length front = omega (arith, long, ap length is, length-take EVENTS_FRONT whole) in
          let front_inside : IsBytes (take EVENTS_FRONT front) = subst IsBytes (sym (take_all EVENTS_FRONT front (omega (arith, ap length is, length-take EVENTS_FRONT whole)))) (bytes_from_all front fits) in
          record {
            all = λ placed e. absurd (long_fails col names front placed front_inside front_long e);
            damaged = λ m e. no_events (events_in col names whole) (λ placed. long_fails col names whole placed inside long);
          }
    ]
