-- What is read of an event column fits.
use Rattle.std.proofs.Common.{◌≡◌, ℕ, zero, suc, ◌+◌, ◌-◌, ◌<◌, ◌≤◌, ◌^◌, Bool, true, false, cond, ltb, List, [], ◌∷◌, length, take, drop, filter, Option, Some, None, Result, Ok, refl, sym, ap, subst, ◌∙◌, arith}
use Rattle.std.specs.Prelude.{not, ◌&&◌, ◌||◌, ◌==◌, nat_lt, nat_le, IfSome, is_some}
use Rattle.std.specs.Int.{Width, w16, w32, w64, from_be_bytes}
use Rattle.std.proofs.lemmas.Bool.{leb-true, eqb-false}
use Rattle.dg_graph.specs.declared.element.Column.{Column}
use Rattle.dg_graph.specs.declared.element.Column.TheVariants as column
use Rattle.dg_graph.specs.declared.event.Body.{Body}
use Rattle.dg_graph.specs.declared.event.Body.TheVariants as body
use Rattle.dg_graph.specs.declared.limits.TheConstants.{TIME_MAX}
use Rattle.dg_graph.specs.declared.placed.Placed.{Placed}
use Rattle.dg_graph.specs.Columns.{same_column, column_of_body}
use Rattle.dg_graph.specs.ColumnGrammar.{and_read, any_number, field, one_byte, two_bytes, four_bytes, eight_bytes, edge_fields, value_of, value_fields, structure_body, body_at, body_size, events_at}
use Rattle.dg_columns.specs.Fields.{placed_at}
use Rattle.dg_columns.specs.ReadFits.{PlacedFit, EventsThatAreReadFit}
use Rattle.dg_columns.specs.Ranges.{EdgeFits, ChangeFits, BodyFits}
use Rattle.dg_columns.proofs.FieldElements.{bind_ok, passed, ok_is}
use Rattle.dg_columns.proofs.Fields.{IsBytes, bytes_from_all, field_ok}
use Rattle.dg_columns.proofs.ReadFitsDeltas.{id_bound, name_bound}
use Rattle.dg_columns.proofs.FieldGroups.{events_after, events_step}

-- a number that is read passed its test
pub right_is : (width : Width) (k : ℕ) (right : ℕ → Bool) (bytes : List ℕ) (at n : ℕ) → field width k right bytes at ≡ Ok n → right n ≡ true
right_is width k right bytes at n e =
    let v = from_be_bytes width (take k (drop at bytes)) in
    let g = field_ok (ltb (length bytes) (at + k)) (right v) at v n e in
    ap right (sym g.2) ∙ g.1

two_true : (a b : Bool) → (a && b) ≡ true → (a ≡ true) × (b ≡ true)
two_true true b e = (refl, e)
two_true false b e = absurd cc

value_within : (n names : ℕ) → nat_le n names ≡ true → IfSome (value_of n) (λ v. v < names)
value_within n names h =
    elim (n == 0) as (λ t. (n == 0) ≡ t → IfSome (cond t None (Some (n - 1))) (λ v. v < names)) [
      | true ↦ λ e. tt
      | false ↦ λ e. omega (arith, leb-true n names h, eqb-false n 0 e)
    ] refl

some_value : (old new : ℕ) → not (old == 0 && new == 0) ≡ true → (is_some (value_of old) || is_some (value_of new)) ≡ true
some_value old new h = by (old == 0) (new == 0) h
  where
    by : (a b : Bool) → not (a && b) ≡ true → (is_some (cond a None (Some (old - 1))) || is_some (cond b None (Some (new - 1)))) ≡ true
    by true true e = absurd cc
    by true false e = refl
    by false b e = refl

abbrev Fit : Column → ℕ → Body → Type 0
Fit col names what = (same_column (column_of_body what) col ≡ true) × BodyFits names what

change_fits : (col : Column) (make : ℕ → ℕ → Option ℕ → Option ℕ → Body) (names : ℕ) (bytes : List ℕ) (at : ℕ) (what : Body) → ((id key : ℕ) (old new : Option ℕ) → ChangeFits names id key old new → Fit col names (make id key old new))
    → IsBytes bytes → value_fields make names bytes at ≡ Ok what → Fit col names what
change_fits col make names bytes at what made fits e =
    let last : ℕ → ℕ → ℕ → ℕ → Result Body ℕ = λ id key old new. Ok (make id key (value_of old) (value_of new)) in
    let is_key : ℕ → Bool = λ n. nat_lt n names in
    let is_old : ℕ → Bool = λ n. nat_le n names in
    let is_new : ℕ → ℕ → Bool = λ old n. nat_le n names && not (old == 0 && n == 0) in
    let a = bind_ok (eight_bytes any_number bytes at) (λ id. and_read (four_bytes is_key bytes (at + 8)) (λ key. and_read (four_bytes is_old bytes (at + 12)) (λ old. and_read (four_bytes (is_new old) bytes (at + 16)) (last id key old)))) what e in
    let b = bind_ok (four_bytes is_key bytes (at + 8)) (λ key. and_read (four_bytes is_old bytes (at + 12)) (λ old. and_read (four_bytes (is_new old) bytes (at + 16)) (last a.0 key old))) what a.2 in
    let c = bind_ok (four_bytes is_old bytes (at + 12)) (λ old. and_read (four_bytes (is_new old) bytes (at + 16)) (last a.0 b.0 old)) what b.2 in
    let d = bind_ok (four_bytes (is_new c.0) bytes (at + 16)) (last a.0 b.0 c.0) what c.2 in
    let t = two_true (nat_le d.0 names) (not (c.0 == 0 && d.0 == 0)) (right_is w32 4 (is_new c.0) bytes (at + 16) d.0 d.1) in
    subst (Fit col names) (ok_is (make a.0 b.0 (value_of c.0) (value_of d.0)) what d.2)
    (made a.0 b.0 (value_of c.0) (value_of d.0) (record {
      id_fits = id_bound bytes at a.0 fits a.1;
      key_fits = name_bound names bytes (at + 8) b.0 b.1;
      old_fits = value_within c.0 names (right_is w32 4 is_old bytes (at + 12) c.0 c.1);
      new_fits = value_within d.0 names t.0;
      some = some_value c.0 d.0 t.1;
    }))

node_fits : (make : ℕ → Body) (names : ℕ) (bytes : List ℕ) (at : ℕ) (what : Body) → ((id : ℕ) → id < 2 ^ 64 → Fit column.Structure names (make id)) → IsBytes bytes → and_read (eight_bytes any_number bytes at) (λ id. Ok (make id)) ≡ Ok what → Fit column.Structure names what
node_fits make names bytes at what made fits e =
    let i = bind_ok (eight_bytes any_number bytes at) (λ id. Ok (make id)) what e in
    subst (Fit column.Structure names) (ok_is (make i.0) what i.2) (made i.0 (id_bound bytes at i.0 fits i.1))

edge_fits : (make : ℕ → ℕ → ℕ → Bool → Body) (names : ℕ) (bytes : List ℕ) (at : ℕ) (what : Body) → ((id src dst : ℕ) (d : Bool) → EdgeFits id src dst → Fit column.Structure names (make id src dst d)) → IsBytes bytes → edge_fields make bytes at ≡ Ok what → Fit column.Structure names what
edge_fits make names bytes at what made fits e =
    let last : ℕ → ℕ → ℕ → ℕ → Result Body ℕ = λ id src dst d. Ok (make id src dst (d == 1)) in
    let a = bind_ok (eight_bytes any_number bytes at) (λ id. and_read (eight_bytes any_number bytes (at + 8)) (λ src. and_read (eight_bytes any_number bytes (at + 16)) (λ dst. and_read (one_byte (λ n. nat_lt n 2) bytes (at + 24)) (last id src dst)))) what e in
    let b = bind_ok (eight_bytes any_number bytes (at + 8)) (λ src. and_read (eight_bytes any_number bytes (at + 16)) (λ dst. and_read (one_byte (λ n. nat_lt n 2) bytes (at + 24)) (last a.0 src dst))) what a.2 in
    let c = bind_ok (eight_bytes any_number bytes (at + 16)) (λ dst. and_read (one_byte (λ n. nat_lt n 2) bytes (at + 24)) (last a.0 b.0 dst)) what b.2 in
    let d = bind_ok (one_byte (λ n. nat_lt n 2) bytes (at + 24)) (last a.0 b.0 c.0) what c.2 in
    subst (Fit column.Structure names) (ok_is (make a.0 b.0 c.0 (d.0 == 1)) what d.2)
    (made a.0 b.0 c.0 (d.0 == 1) (id_bound bytes at a.0 fits a.1, id_bound bytes (at + 8) b.0 fits b.1, id_bound bytes (at + 16) c.0 fits c.1))

structure_fits : (kind names : ℕ) (bytes : List ℕ) (at : ℕ) (what : Body) → IsBytes bytes → structure_body kind bytes at ≡ Ok what → Fit column.Structure names what
structure_fits kind names bytes at what fits e = by (kind == 1) (kind == 2) (kind == 3) e
  where
    by : (a b c : Bool) → cond a (and_read (eight_bytes any_number bytes at) (λ id. Ok (body.NodeAdded id))) (cond b (and_read (eight_bytes any_number bytes at) (λ id. Ok (body.NodeRemoved id))) (cond c (edge_fields (λ id src dst d. body.EdgeAdded d id src dst) bytes at) (edge_fields (λ id src dst d. body.EdgeRemoved d id src dst) bytes at))) ≡ Ok what → Fit column.Structure names what
    by true b c e = node_fits (λ id. body.NodeAdded id) names bytes at what (λ id h. (refl, h)) fits e
    by false true c e = node_fits (λ id. body.NodeRemoved id) names bytes at what (λ id h. (refl, h)) fits e
    by false false true e = edge_fits (λ id src dst d. body.EdgeAdded d id src dst) names bytes at what (λ id src dst d h. (refl, h)) fits e
    by false false false e = edge_fits (λ id src dst d. body.EdgeRemoved d id src dst) names bytes at what (λ id src dst d h. (refl, h)) fits e

body_fits : (col : Column) (names : ℕ) (bytes : List ℕ) (at : ℕ) (what : Body) → IsBytes bytes → body_at col names bytes at ≡ Ok what → Fit col names what
body_fits column.Structure names bytes at what fits e =
    let k = bind_ok (one_byte (λ n. nat_le 1 n && nat_le n 4) bytes at) (λ kind. structure_body kind bytes (at + 1)) what e in
    structure_fits k.0 names bytes (at + 1) what fits k.2
body_fits column.NodeAttr names bytes at what fits e =
    change_fits column.NodeAttr (λ id key old new. body.NodeAttr key id old new) names bytes at what (λ id key old new h. (refl, h)) fits e
body_fits column.EdgeAttr names bytes at what fits e =
    change_fits column.EdgeAttr (λ id key old new. body.EdgeAttr key id old new) names bytes at what (λ id key old new h. (refl, h)) fits e
body_fits column.Transient names bytes at what fits e =
    let is_name : ℕ → Bool = λ n. nat_lt n names in
    let last : ℕ → ℕ → ℕ → Result Body ℕ = λ src dst value. Ok (body.Message src dst value) in
    let a = bind_ok (eight_bytes any_number bytes at) (λ src. and_read (eight_bytes any_number bytes (at + 8)) (λ dst. and_read (four_bytes is_name bytes (at + 16)) (last src dst))) what e in
    let b = bind_ok (eight_bytes any_number bytes (at + 8)) (λ dst. and_read (four_bytes is_name bytes (at + 16)) (last a.0 dst)) what a.2 in
    let c = bind_ok (four_bytes is_name bytes (at + 16)) (last a.0 b.0) what b.2 in
    subst (Fit column.Transient names) (ok_is (body.Message a.0 b.0 c.0) what c.2)
    (refl, (id_bound bytes at a.0 fits a.1, id_bound bytes (at + 8) b.0 fits b.1, name_bound names bytes (at + 16) c.0 c.1))

no_more : (col : Column) (names low earliest : ℕ) → PlacedFit col names low earliest []
no_more col names low earliest = record { positions = tt; events = tt; inside = refl }

one_more : (col : Column) (names low earliest : ℕ) (p : Placed) (placed : List Placed) → low ≤ p.at → earliest ≤ p.event.time → p.event.time ≤ TIME_MAX → Fit col names p.event.body → PlacedFit col names (p.at + 1) p.event.time placed → PlacedFit col names low earliest (p ∷ placed)
one_more col names low earliest p placed l e m f rest = record {
  positions = (l, rest.positions);
  events = (record { not_before = e; not_after = m; fits = f.1 }, rest.events);
  inside =
      let more : List Placed = filter (λ (p : Placed). same_column (column_of_body p.event.body) col) placed in
      ap (λ t. cond t (p ∷ more) more) f.0 ∙ ap (λ (l : List Placed). p ∷ l) rest.inside;
}

events_fit : (k : ℕ) (col : Column) (names : ℕ) (bytes : List ℕ) (at low earliest : ℕ) (placed : List Placed) → IsBytes bytes → events_at k col names bytes at low earliest ≡ Ok placed → PlacedFit col names low earliest placed
events_fit zero col names bytes at low earliest placed fits e =
    let nothing : List Placed = [] in
    subst (PlacedFit col names low earliest) (passed (length bytes == at) at nothing placed e).1 (no_more col names low earliest)
events_fit (suc k) col names bytes at low earliest placed fits e =
    let is_time : ℕ → Bool = λ n. nat_le earliest n && nat_le n TIME_MAX in
    let a = bind_ok (placed_at col names bytes at low earliest) (λ p. and_read (events_after k col names bytes at p) (λ events. Ok (p ∷ events))) placed (sym (events_step k col names bytes at low earliest) ∙ e) in
    let p = a.0 in
    let b = bind_ok (events_after k col names bytes at p) (λ events. Ok (p ∷ events)) placed a.2 in
    let make : ℕ → ℕ → Body → Result Placed ℕ = λ position time what. Ok (record { at = position; event = record { time = time; body = what } }) in
    let x = bind_ok (two_bytes (λ n. nat_le low n) bytes at) (λ position. and_read (eight_bytes is_time bytes (at + 2)) (λ time. and_read (body_at col names bytes (at + 10)) (make position time))) p a.1 in
    let y = bind_ok (eight_bytes is_time bytes (at + 2)) (λ time. and_read (body_at col names bytes (at + 10)) (make x.0 time)) p x.2 in
    let z = bind_ok (body_at col names bytes (at + 10)) (make x.0 y.0) p y.2 in
    let q : Placed = record { at = x.0; event = record { time = y.0; body = z.0 } } in
    let is : q ≡ p = ok_is q p z.2 in
    let t = two_true (nat_le earliest y.0) (nat_le y.0 TIME_MAX) (right_is w64 8 is_time bytes (at + 2) y.0 y.1) in
    let rest = events_fit k col names bytes (at + 10 + body_size p.event.body) (p.at + 1) p.event.time b.0 fits b.1 in
    subst (PlacedFit col names low earliest) (ok_is (p ∷ b.0) placed b.2)
    (subst (λ r. PlacedFit col names (r.at + 1) r.event.time b.0 → PlacedFit col names low earliest (r ∷ b.0)) is
    (one_more col names low earliest q b.0 (leb-true low x.0 (right_is w16 2 (λ n. nat_le low n) bytes at x.0 x.1)) (leb-true earliest y.0 t.0) (leb-true y.0 TIME_MAX t.1) (body_fits col names bytes (at + 10) z.0 fits z.1))
    rest)

pub events_that_are_read_fit : EventsThatAreReadFit
events_that_are_read_fit col names [] placed fits e =
    let nothing : List Placed = [] in
    subst (PlacedFit col names 0 0) (ok_is nothing placed e) (no_more col names 0 0)
events_that_are_read_fit col names (b ∷ bytes) placed fits e =
    let c = bind_ok (four_bytes (λ n. nat_le 1 n) (b ∷ bytes) 0) (λ count. events_at count col names (b ∷ bytes) 4 0 0) placed e in
    events_fit c.0 col names (b ∷ bytes) 4 0 0 placed (bytes_from_all (b ∷ bytes) fits) c.2
