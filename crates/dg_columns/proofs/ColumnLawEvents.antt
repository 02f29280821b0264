-- What is spelled is read back.
use Rattle.std.proofs.Common.{◌≡◌, ℕ, suc, ◌+◌, ◌-◌, ◌^◌, ◌<◌, ◌≤◌, Bool, true, false, cond, List, [], ◌∷◌, ◌++◌, length, drop, filter, Option, Some, None, Result, Ok, Err, refl, ap, subst, ◌∙◌, append_assoc, arith}
use Rattle.std.specs.Prelude.{◌&&◌, ◌||◌, ◌==◌, not, nat_lt, nat_le, is_some, IfSome}
use Rattle.std.specs.Int.{w8, w16, w32, w64}
use Rattle.std.specs.List.{flat_map}
use Rattle.std.proofs.lemmas.Bool.{and_from, lt-ltb, le-leb, eq-eqb, ne_eqb}
use Rattle.std.proofs.lemmas.List.{length-drop}
use Rattle.dg_graph.specs.declared.element.Column.{Column}
use Rattle.dg_graph.specs.declared.element.Column.TheVariants as column
use Rattle.dg_graph.specs.declared.event.Body.{Body}
use Rattle.dg_graph.specs.declared.event.Body.TheVariants as body
use Rattle.dg_graph.specs.declared.event.Event.{Event}
use Rattle.dg_graph.specs.declared.limits.TheConstants.{TIME_MAX}
use Rattle.dg_graph.specs.declared.placed.Placed.{Placed}
use Rattle.dg_graph.specs.Columns.{two, four, eight, value_bytes, body_bytes, placed_bytes, placed_from, placed_in, counted, column_of_body, same_column}
use Rattle.dg_graph.specs.Elements.{bit}
use Rattle.dg_graph.specs.ColumnGrammar.{and_read, any_number, one_byte, two_bytes, four_bytes, eight_bytes, edge_fields, value_of, value_fields, body_at, body_size, events_at, events_in}
use Rattle.dg_columns.specs.Fields.{placed_at}
use Rattle.dg_columns.specs.ColumnLaws.{EventsAreReadBack}
use Rattle.dg_columns.specs.Ranges.{EdgeFits, ChangeFits, BodyFits, EventFits, EventsFit}
use Rattle.dg_columns.proofs.FieldGroups.{events_after, events_step}
use Rattle.dg_columns.proofs.Fields.{one, spelling8, spelling16, spelling32, spelling64, field_again}

-- a reading of x that ends at `next`, with the rest behind it
abbrev pub Found : (B : Type 0) → Result B ℕ → B → List ℕ → ℕ → List ℕ → Type 0
Found B read x bytes next rest = (read ≡ Ok x) × (drop next bytes ≡ rest) × (next ≤ length bytes)

pub byte_again : (right : ℕ → Bool) (bytes : List ℕ) (at n next : ℕ) (rest : List ℕ) → n < 256 → next ≡ at + 1 → right n ≡ true → drop at bytes ≡ n ∷ rest → Found ℕ (one_byte right bytes at) n bytes next rest
byte_again right bytes at n next rest lt is passes e =
    field_again w8 1 256 one spelling8 right bytes at n next rest (omega arith) lt is passes e

two_again : (right : ℕ → Bool) (bytes : List ℕ) (at n next : ℕ) (rest : List ℕ) → n < 2 ^ 16 → next ≡ at + 2 → right n ≡ true → drop at bytes ≡ two n ++ rest → Found ℕ (two_bytes right bytes at) n bytes next rest
two_again right bytes at n next rest lt is passes e =
    field_again w16 2 (2 ^ 16) two spelling16 right bytes at n next rest (omega arith) lt is passes e

pub four_again : (right : ℕ → Bool) (bytes : List ℕ) (at n next : ℕ) (rest : List ℕ) → n < 2 ^ 32 → next ≡ at + 4 → right n ≡ true → drop at bytes ≡ four n ++ rest → Found ℕ (four_bytes right bytes at) n bytes next rest
four_again right bytes at n next rest lt is passes e =
    field_again w32 4 (2 ^ 32) four spelling32 right bytes at n next rest (omega arith) lt is passes e

pub eight_again : (right : ℕ → Bool) (bytes : List ℕ) (at n next : ℕ) (rest : List ℕ) → n < 2 ^ 64 → next ≡ at + 8 → right n ≡ true → drop at bytes ≡ eight n ++ rest → Found ℕ (eight_bytes right bytes at) n bytes next rest
eight_again right bytes at n next rest lt is passes e =
    field_again w64 8 (2 ^ 64) eight spelling64 right bytes at n next rest (omega arith) lt is passes e

-- ---- an edge

bit_back : (d : Bool) → (bit d == 1) ≡ d
bit_back true = refl
bit_back false = refl

bit_small : (d : Bool) → (bit d < 256) × (nat_lt (bit d) 2 ≡ true)
bit_small true = (omega arith, refl)
bit_small false = (omega arith, refl)

-- four fields, one after another
four_read : {B : Type 0} (make : ℕ → ℕ → ℕ → ℕ → B) (r s t : Result ℕ ℕ) (u : ℕ → Result ℕ ℕ) (a b c d : ℕ) → r ≡ Ok a → s ≡ Ok b → t ≡ Ok c → u c ≡ Ok d → and_read r (λ x. and_read s (λ y. and_read t (λ z. and_read (u z) (λ w. Ok (make x y z w))))) ≡ Ok (make a b c d)
four_read make r s t u a b c d e1 e2 e3 e4 =
    (λ i. and_read (e1 i) (λ x. and_read (e2 i) (λ y. and_read (e3 i) (λ z. and_read (u z) (λ w. Ok (make x y z w))))))
    ∙ ap (λ v. and_read v (λ w. Ok (make a b c w))) e4

pub edge_again : {B : Type 0} (make : ℕ → ℕ → ℕ → Bool → B) (bytes : List ℕ) (at id src dst : ℕ) (d : Bool) (next : ℕ) (rest : List ℕ) → EdgeFits id src dst → next ≡ at + 25 → drop at bytes ≡ (eight id ++ (eight src ++ (eight dst ++ bit d ∷ []))) ++ rest → Found B (edge_fields make bytes at) (make id src dst d) bytes next rest
edge_again make bytes at id src dst d next rest fits is e =
    let small = bit_small d in
    let e1 = e ∙ append_assoc (eight id) (eight src ++ (eight dst ++ bit d ∷ [])) rest in
    let f1 = eight_again any_number bytes at id (at + 8) ((eight src ++ (eight dst ++ bit d ∷ [])) ++ rest) fits.0 refl refl e1 in
    let e2 = f1.1 ∙ append_assoc (eight src) (eight dst ++ bit d ∷ []) rest in
    let f2 = eight_again any_number bytes (at + 8) src (at + 16) ((eight dst ++ bit d ∷ []) ++ rest) fits.1 (omega arith) refl e2 in
    let e3 = f2.1 ∙ append_assoc (eight dst) (bit d ∷ []) rest in
    let f3 = eight_again any_number bytes (at + 16) dst (at + 24) (bit d ∷ rest) fits.2 (omega arith) refl e3 in
    let f4 = byte_again (λ n. nat_lt n 2) bytes (at + 24) (bit d) next rest small.0 (omega arith) small.1 f3.1 in
    let read = four_read (λ a b c n. make a b c (n == 1)) (eight_bytes any_number bytes at) (eight_bytes any_number bytes (at + 8)) (eight_bytes any_number bytes (at + 16)) (λ z. one_byte (λ n. nat_lt n 2) bytes (at + 24)) id src dst (bit d) f1.0 f2.0 f3.0 f4.0 in
    (read ∙ ap (λ b. Ok (make id src dst b)) (bit_back d), f4.1, f4.2)

-- ---- a value's change

value_number : Option ℕ → ℕ
value_number None = 0
value_number (Some n) = n + 1

value_text : (v : Option ℕ) → value_bytes v ≡ four (value_number v)
unfolding value_number
value_text None = refl
value_text (Some n) = refl

some_number : (n : ℕ) → (n + 1 == 0) ≡ false
some_number n = ne_eqb (n + 1) 0 (λ e. omega arith)

value_back : (v : Option ℕ) → value_of (value_number v) ≡ v
unfolding value_number
value_back None = refl
value_back (Some n) =
    ap (λ b. cond b None (Some (n + 1 - 1))) (some_number n) ∙ ap (λ m. Some m) (omega arith)

value_small : (names : ℕ) (v : Option ℕ) → IfSome v (λ n. n < names) → value_number v ≤ names
unfolding value_number
value_small names None h = omega arith
value_small names (Some n) h = omega arith

not_both : (old new : Option ℕ) → (is_some old || is_some new) ≡ true → not (value_number old == 0 && value_number new == 0) ≡ true
unfolding value_number
not_both None None h = absurd cc
not_both None (Some n) h = ap (λ b. not b) (some_number n)
not_both (Some m) new h = ap (λ b. not (b && value_number new == 0)) (some_number m)

change_again : (make : ℕ → ℕ → Option ℕ → Option ℕ → Body) (names : ℕ) (bytes : List ℕ) (at id key : ℕ) (old new : Option ℕ) (rest : List ℕ) → names < 2 ^ 32 → ChangeFits names id key old new → drop at bytes ≡ (eight id ++ (four key ++ (value_bytes old ++ value_bytes new))) ++ rest → Found Body (value_fields make names bytes at) (make id key old new) bytes (at + 20) rest
change_again make names bytes at id key old new rest few fits e =
    let m = value_number old in
    let n = value_number new in
    let is_key : ℕ → Bool = λ k. nat_lt k names in
    let is_old : ℕ → Bool = λ k. nat_le k names in
    let is_new : ℕ → ℕ → Bool = λ j k. nat_le k names && not (j == 0 && k == 0) in
    let m_small = value_small names old fits.old_fits in
    let n_small = value_small names new fits.new_fits in
    let e1 = e ∙ append_assoc (eight id) (four key ++ (value_bytes old ++ value_bytes new)) rest in
    let f1 = eight_again any_number bytes at id (at + 8) ((four key ++ (value_bytes old ++ value_bytes new)) ++ rest) fits.id_fits refl refl e1 in
    let e2 = f1.1 ∙ append_assoc (four key) (value_bytes old ++ value_bytes new) rest in
    let f2 = four_again is_key bytes (at + 8) key (at + 12) ((value_bytes old ++ value_bytes new) ++ rest) (omega (arith, fits.key_fits)) (omega arith) (lt-ltb key names fits.key_fits) e2 in
    let e3 = f2.1 ∙ append_assoc (value_bytes old) (value_bytes new) rest ∙ ap (λ (t : List ℕ). t ++ (value_bytes new ++ rest)) (value_text old) in
    let f3 = four_again is_old bytes (at + 12) m (at + 16) (value_bytes new ++ rest) (omega arith) (omega arith) (le-leb m names m_small) e3 in
    let e4 = f3.1 ∙ ap (λ (t : List ℕ). t ++ rest) (value_text new) in
    let f4 = four_again (is_new m) bytes (at + 16) n (at + 20) rest (omega arith) (omega arith) (and_from (nat_le n names) (not (m == 0 && n == 0)) (le-leb n names n_small) (not_both old new fits.some)) e4 in
    let read = four_read (λ a b c d. make a b (value_of c) (value_of d)) (eight_bytes any_number bytes at) (four_bytes is_key bytes (at + 8)) (four_bytes is_old bytes (at + 12)) (λ z. four_bytes (is_new z) bytes (at + 16)) id key m n f1.0 f2.0 f3.0 f4.0 in
    (read ∙ (λ i. Ok (make id key (value_back old i) (value_back new i))), f4.1, f4.2)

-- ---- what an event changes

pub one_read : {A B : Type 0} (make : A → B) (r : Result A ℕ) (a : A) → r ≡ Ok a → and_read r (λ x. Ok (make x)) ≡ Ok (make a)
one_read make r a e = ap (λ s. and_read s (λ x. Ok (make x))) e

pub and_then : {A B : Type 0} (r : Result A ℕ) (f : A → Result B ℕ) (x : A) (y : B) → r ≡ Ok x → f x ≡ Ok y → and_read r f ≡ Ok y
and_then r f x y e g = ap (λ s. and_read s f) e ∙ g

pub body_again : (names : ℕ) (bytes : List ℕ) (at : ℕ) (what : Body) (rest : List ℕ) → names < 2 ^ 32 → BodyFits names what → drop at bytes ≡ body_bytes what ++ rest → Found Body (body_at (column_of_body what) names bytes at) what bytes (at + body_size what) rest
body_again names bytes at (body.NodeAdded id) rest few fits e =
    let f1 = byte_again (λ n. nat_le 1 n && nat_le n 4) bytes at 1 (at + 1) (eight id ++ rest) (omega arith) refl refl e in
    let f2 = eight_again any_number bytes (at + 1) id (at + 9) rest fits (omega arith) refl f1.1 in
    (and_then (one_byte (λ n. nat_le 1 n && nat_le n 4) bytes at) _ 1 (body.NodeAdded id) f1.0 (one_read (λ id. body.NodeAdded id) (eight_bytes any_number bytes (at + 1)) id f2.0), f2.1, f2.2)
body_again names bytes at (body.NodeRemoved id) rest few fits e =
    let f1 = byte_again (λ n. nat_le 1 n && nat_le n 4) bytes at 2 (at + 1) (eight id ++ rest) (omega arith) refl refl e in
    let f2 = eight_again any_number bytes (at + 1) id (at + 9) rest fits (omega arith) refl f1.1 in
    (and_then (one_byte (λ n. nat_le 1 n && nat_le n 4) bytes at) _ 2 (body.NodeRemoved id) f1.0 (one_read (λ id. body.NodeRemoved id) (eight_bytes any_number bytes (at + 1)) id f2.0), f2.1, f2.2)
body_again names bytes at (body.EdgeAdded d id src dst) rest few fits e =
    let f1 = byte_again (λ n. nat_le 1 n && nat_le n 4) bytes at 3 (at + 1) ((eight id ++ (eight src ++ (eight dst ++ bit d ∷ []))) ++ rest) (omega arith) refl refl e in
    let f2 = edge_again (λ id src dst d. body.EdgeAdded d id src dst) bytes (at + 1) id src dst d (at + 26) rest fits (omega arith) f1.1 in
    (and_then (one_byte (λ n. nat_le 1 n && nat_le n 4) bytes at) _ 3 (body.EdgeAdded d id src dst) f1.0 f2.0, f2.1, f2.2)
body_again names bytes at (body.EdgeRemoved d id src dst) rest few fits e =
    let f1 = byte_again (λ n. nat_le 1 n && nat_le n 4) bytes at 4 (at + 1) ((eight id ++ (eight src ++ (eight dst ++ bit d ∷ []))) ++ rest) (omega arith) refl refl e in
    let f2 = edge_again (λ id src dst d. body.EdgeRemoved d id src dst) bytes (at + 1) id src dst d (at + 26) rest fits (omega arith) f1.1 in
    (and_then (one_byte (λ n. nat_le 1 n && nat_le n 4) bytes at) _ 4 (body.EdgeRemoved d id src dst) f1.0 f2.0, f2.1, f2.2)
body_again names bytes at (body.NodeAttr key id old new) rest few fits e =
    change_again (λ id key old new. body.NodeAttr key id old new) names bytes at id key old new rest few fits e
body_again names bytes at (body.EdgeAttr key id old new) rest few fits e =
    change_again (λ id key old new. body.EdgeAttr key id old new) names bytes at id key old new rest few fits e
body_again names bytes at (body.Message src dst value) rest few fits e =
    let is_name : ℕ → Bool = λ n. nat_lt n names in
    let e1 = e ∙ append_assoc (eight src) (eight dst ++ four value) rest in
    let f1 = eight_again any_number bytes at src (at + 8) ((eight dst ++ four value) ++ rest) fits.0 refl refl e1 in
    let e2 = f1.1 ∙ append_assoc (eight dst) (four value) rest in
    let f2 = eight_again any_number bytes (at + 8) dst (at + 16) (four value ++ rest) fits.1 (omega arith) refl e2 in
    let f3 = four_again is_name bytes (at + 16) value (at + 20) rest (omega (arith, fits.2)) (omega arith) (lt-ltb value names fits.2) f2.1 in
    (λ i. and_read (f1.0 i) (λ src. and_read (f2.0 i) (λ dst. and_read (f3.0 i) (λ value. Ok (body.Message src dst value)))), f3.1, f3.2)

-- ---- events

pub same_column_is : (a b : Column) → same_column a b ≡ true → a ≡ b
same_column_is column.Structure column.Structure e = refl
same_column_is column.Structure column.NodeAttr e = absurd cc
same_column_is column.Structure column.EdgeAttr e = absurd cc
same_column_is column.NodeAttr column.Structure e = absurd cc
same_column_is column.NodeAttr column.NodeAttr e = refl
same_column_is column.NodeAttr column.EdgeAttr e = absurd cc
same_column_is column.EdgeAttr column.Structure e = absurd cc
same_column_is column.EdgeAttr column.NodeAttr e = absurd cc
same_column_is column.EdgeAttr column.EdgeAttr e = refl
same_column_is column.Structure column.Transient e = absurd cc
same_column_is column.NodeAttr column.Transient e = absurd cc
same_column_is column.EdgeAttr column.Transient e = absurd cc
same_column_is column.Transient column.Structure e = absurd cc
same_column_is column.Transient column.NodeAttr e = absurd cc
same_column_is column.Transient column.EdgeAttr e = absurd cc
same_column_is column.Transient column.Transient e = refl

-- an event of the column that may stand behind others
record PlacedFits (col : Column) (names low earliest : ℕ) (p : Placed) : Type 0 where
  rises : low ≤ p.at
  position : p.at < 2 ^ 16
  event : EventFits names earliest p.event
  column : column_of_body p.event.body ≡ col

abbrev AllFit : Column → ℕ → ℕ → ℕ → List Placed → Type 0
AllFit col names low earliest [] = Unit {0}
AllFit col names low earliest (p ∷ ps) = PlacedFits col names low earliest p × AllFit col names (p.at + 1) p.event.time ps

placed_again : (col : Column) (names : ℕ) (bytes : List ℕ) (at low earliest : ℕ) (p : Placed) (rest : List ℕ) → names < 2 ^ 32 → PlacedFits col names low earliest p → drop at bytes ≡ placed_bytes p ++ rest → Found Placed (placed_at col names bytes at low earliest) p bytes (at + 10 + body_size p.event.body) rest
placed_again col names bytes at low earliest p rest few fits e =
    let what = p.event.body in
    let time = p.event.time in
    let is_position : ℕ → Bool = λ n. nat_le low n in
    let is_time : ℕ → Bool = λ n. nat_le earliest n && nat_le n TIME_MAX in
    let in_time : is_time time ≡ true = and_from (nat_le earliest time) (nat_le time TIME_MAX) (le-leb earliest time fits.event.not_before) (le-leb time TIME_MAX fits.event.not_after) in
    let e1 = e ∙ append_assoc (two p.at) (eight time ++ body_bytes what) rest in
    let f1 = two_again is_position bytes at p.at (at + 2) ((eight time ++ body_bytes what) ++ rest) fits.position refl (le-leb low p.at fits.rises) e1 in
    let e2 = f1.1 ∙ append_assoc (eight time) (body_bytes what) rest in
    let f2 = eight_again is_time bytes (at + 2) time (at + 10) (body_bytes what ++ rest) (omega (arith, fits.event.not_after)) (omega arith) in_time e2 in
    let f3 = body_again names bytes (at + 10) what rest few fits.event.fits f2.1 in
    let read_body : body_at col names bytes (at + 10) ≡ Ok what = subst (λ col. body_at col names bytes (at + 10) ≡ Ok what) fits.column f3.0 in
    let made : ℕ → ℕ → Body → Placed = λ position time what. record { at = position; event = record { time = time; body = what } } in
    let read : placed_at col names bytes at low earliest ≡ Ok p = λ i. and_read (f1.0 i) (λ position. and_read (f2.0 i) (λ time. and_read (read_body i) (λ what. Ok (made position time what)))) in
    (read, f3.1, f3.2)

events_again : (ps : List Placed) (col : Column) (names : ℕ) (bytes : List ℕ) (at low earliest : ℕ) → names < 2 ^ 32 → at ≤ length bytes → AllFit col names low earliest ps → drop at bytes ≡ flat_map placed_bytes ps → events_at (length ps) col names bytes at low earliest ≡ Ok ps
events_again [] col names bytes at low earliest few within fits e =
    let ended : length bytes ≡ at = omega (arith, length-drop at bytes, ap length e) in
    ap (λ b. cond b (Ok []) (Err at)) (eq-eqb (length bytes) at ended)
events_again (p ∷ ps) col names bytes at low earliest few within fits e =
    let next = at + 10 + body_size p.event.body in
    let first = placed_again col names bytes at low earliest p (flat_map placed_bytes ps) few fits.0 e in
    let others = events_again ps col names bytes next (p.at + 1) p.event.time few first.2 fits.1 first.1 in
    events_step (length ps) col names bytes at low earliest
    ∙ and_then (placed_at col names bytes at low earliest) (λ p. and_read (events_after (length ps) col names bytes at p) (λ events. Ok (p ∷ events))) p (p ∷ ps) first.0
    (one_read (λ events. p ∷ events) (events_after (length ps) col names bytes at p) ps others)

-- ---- the events of a list that stand in the column

abbrev in_col : Column → List Placed → List Placed
in_col col ps = filter (λ p. same_column (column_of_body p.event.body) col) ps

few_placed : (col : Column) (n : ℕ) (events : List Event) → length (in_col col (placed_from n events)) ≤ length events
few_placed col n [] = omega arith
few_placed col n (e ∷ events) =
    let rest = few_placed col (n + 1) events in
    elim (same_column (column_of_body e.body) col) as (λ b. length (cond b (record { at = n; event = e } ∷ in_col col (placed_from (n + 1) events)) (in_col col (placed_from (n + 1) events))) ≤ suc (length events)) [ true ↦ omega arith | false ↦ omega arith ]

-- what fits behind a later event fits behind an earlier one
earlier : (names low high : ℕ) (e : Event) → low ≤ high → EventFits names high e → EventFits names low e
earlier names low high e le fits = record { not_before = omega (arith, fits.not_before); not_after = fits.not_after; fits = fits.fits }

all_fit : (col : Column) (names n low earliest now : ℕ) (events : List Event) → low ≤ n → earliest ≤ now → n + length events ≤ 65536 → EventsFit names now events → AllFit col names low earliest (in_col col (placed_from n events))
all_fit col names n low earliest now [] below passed few fits = tt
all_fit col names n low earliest now (e ∷ events) below passed few fits =
    let p : Placed = record { at = n; event = e } in
    let event = earlier names earliest now e passed fits.0 in
    let taken = all_fit col names (n + 1) (n + 1) e.time e.time events (omega arith) (omega arith) (omega arith) fits.1 in
    let left = all_fit col names (n + 1) low earliest e.time events (omega arith) (omega (arith, event.not_before)) (omega arith) fits.1 in
    elim (same_column (column_of_body e.body) col) as (λ b. same_column (column_of_body e.body) col ≡ b → AllFit col names low earliest (cond b (p ∷ in_col col (placed_from (n + 1) events)) (in_col col (placed_from (n + 1) events)))) [
      | true ↦ λ same. (record { rises = below; position = omega arith; event = event; column = same_column_is (column_of_body e.body) col same }, taken)
      | false ↦ λ other. left
    ] refl

-- the column of any events that fit is read back
counted_again : (col : Column) (names : ℕ) (ps : List Placed) → names < 2 ^ 32 → length ps ≤ 65536 → AllFit col names 0 0 ps → events_in col names (counted ps) ≡ Ok ps
counted_again col names [] few short fits = refl
counted_again col names (p ∷ ps) few short fits =
    let bytes : List ℕ = four (length (p ∷ ps)) ++ flat_map placed_bytes (p ∷ ps) in
    let f = four_again (λ n. nat_le 1 n) bytes 0 (length (p ∷ ps)) 4 (flat_map placed_bytes (p ∷ ps)) (omega arith) (omega arith) (le-leb 1 (length (p ∷ ps)) (omega arith)) refl in
    and_then (four_bytes (λ n. nat_le 1 n) bytes 0) (λ count. events_at count col names bytes 4 0 0) (length (p ∷ ps)) (p ∷ ps) f.0
    (events_again (p ∷ ps) col names bytes 4 0 0 few f.2 fits f.1)

pub events_back : EventsAreReadBack
events_back = λ col names events few short fits.
    let count = few_placed col 0 events in
    counted_again col names (placed_in col events) few (omega arith) (all_fit col names 0 0 0 0 events (omega arith) (omega arith) (omega arith) fits)
