-- Bytes that are read are the one spelling of what they are read as.
use Rattle.std.proofs.Common.{◌≡◌, ◌≢◌, ◌-◌, ℕ, zero, suc, ◌+◌, ◌^◌, ◌<◌, Bool, true, false, cond, List, [], ◌∷◌, ◌++◌, length, drop, Option, Some, None, Result, Ok, Err, refl, sym, ap, subst, ◌∙◌, arith}
use Rattle.std.specs.Prelude.{◌&&◌, ◌==◌, not, nat_lt, nat_le}
use Rattle.std.specs.Int.{w8, w16, w32, w64}
use Rattle.std.specs.List.{flat_map}
use Rattle.std.proofs.lemmas.Bool.{eqb-true, eqb-false, ltb-true, leb-true}
use Rattle.std.proofs.lemmas.List.{append-nil, drop_all}
use Rattle.dg_graph.specs.declared.element.Column.{Column}
use Rattle.dg_graph.specs.declared.element.Column.TheVariants as column
use Rattle.dg_graph.specs.declared.element.Element.{Element}
use Rattle.dg_graph.specs.declared.element.Element.TheVariants as element
use Rattle.dg_graph.specs.declared.event.Body.{Body}
use Rattle.dg_graph.specs.declared.event.Body.TheVariants as body
use Rattle.dg_graph.specs.declared.limits.TheConstants.{TIME_MAX}
use Rattle.dg_graph.specs.declared.placed.Placed.{Placed}
use Rattle.dg_graph.specs.Columns.{two, four, eight, value_bytes, body_bytes, placed_bytes, counted, element_bytes, part_bytes, parts_bytes}
use Rattle.dg_graph.specs.Composition.{Delta}
use Rattle.dg_graph.specs.Elements.{bit, has}
use Rattle.dg_graph.specs.ColumnGrammar.{and_read, any_number, one_byte, two_bytes, four_bytes, eight_bytes, edge_fields, value_of, value_fields, structure_body, body_at, body_size, end_at, events_at, events_in, value_element, element_at, element_size, rises_from, elements_at, no_changes_in, changes_in, delta_in}
use Rattle.dg_columns.specs.Fields.{placed_at, next_element_at}
use Rattle.dg_columns.specs.ColumnLaws.{EventsHaveOneSpelling, DeltasHaveOneSpelling}
use Rattle.dg_columns.proofs.FieldGroups.{events_after, events_step}
use Rattle.dg_columns.proofs.ColumnWrites.{counted_some}
use Rattle.dg_columns.proofs.FieldElements.{bind_ok, passed, ok_is, elements_step}
use Rattle.dg_columns.proofs.Fields.{IsBytes, bytes_from_all, Stands, stands_then, one, spelling8, spelling16, spelling32, spelling64, field_stands}

eight_stands : (right : ℕ → Bool) (bytes : List ℕ) (at n next : ℕ) → IsBytes bytes → next ≡ at + 8 → eight_bytes right bytes at ≡ Ok n → Stands bytes at (eight n) next
eight_stands right bytes at n next fits is e =
    (field_stands w64 8 (2 ^ 64) eight spelling64 right bytes at n next fits is e).0

four_stands : (right : ℕ → Bool) (bytes : List ℕ) (at n next : ℕ) → IsBytes bytes → next ≡ at + 4 → four_bytes right bytes at ≡ Ok n → Stands bytes at (four n) next
four_stands right bytes at n next fits is e =
    (field_stands w32 4 (2 ^ 32) four spelling32 right bytes at n next fits is e).0

-- ---- an edge

bit_spelled : (n : ℕ) → nat_lt n 2 ≡ true → bit (n == 1) ≡ n
bit_spelled zero e = refl
bit_spelled (suc zero) e = refl
bit_spelled (suc (suc n)) e = absurd (omega (arith, ltb-true (suc (suc n)) 2 e))

abbrev edge_text : ℕ → ℕ → ℕ → Bool → List ℕ
edge_text id src dst directed = eight id ++ (eight src ++ (eight dst ++ bit directed ∷ []))

record EdgeRead (B : Type 0) (make : ℕ → ℕ → ℕ → Bool → B) (bytes : List ℕ) (at : ℕ) (y : B) : Type 0 where
  id : ℕ
  src : ℕ
  dst : ℕ
  directed : Bool
  is : make id src dst directed ≡ y
  stands : Stands bytes at (edge_text id src dst directed) (at + 25)

edge_read : {B : Type 0} (make : ℕ → ℕ → ℕ → Bool → B) (bytes : List ℕ) (at : ℕ) (y : B) → IsBytes bytes → edge_fields make bytes at ≡ Ok y → EdgeRead B make bytes at y
edge_read {B} make bytes at y fits e =
    let last : ℕ → ℕ → ℕ → ℕ → Result B ℕ = λ id src dst d. Ok (make id src dst (d == 1)) in
    let a = bind_ok (eight_bytes any_number bytes at) (λ id. and_read (eight_bytes any_number bytes (at + 8)) (λ src. and_read (eight_bytes any_number bytes (at + 16)) (λ dst. and_read (one_byte (λ n. nat_lt n 2) bytes (at + 24)) (last id src dst)))) y e in
    let b = bind_ok (eight_bytes any_number bytes (at + 8)) (λ src. and_read (eight_bytes any_number bytes (at + 16)) (λ dst. and_read (one_byte (λ n. nat_lt n 2) bytes (at + 24)) (last a.0 src dst))) y a.2 in
    let c = bind_ok (eight_bytes any_number bytes (at + 16)) (λ dst. and_read (one_byte (λ n. nat_lt n 2) bytes (at + 24)) (last a.0 b.0 dst)) y b.2 in
    let d = bind_ok (one_byte (λ n. nat_lt n 2) bytes (at + 24)) (last a.0 b.0 c.0) y c.2 in
    let s1 = eight_stands any_number bytes at a.0 (at + 8) fits refl a.1 in
    let s2 = eight_stands any_number bytes (at + 8) b.0 (at + 16) fits (omega arith) b.1 in
    let s3 = eight_stands any_number bytes (at + 16) c.0 (at + 24) fits (omega arith) c.1 in
    let s4 = field_stands w8 1 256 one spelling8 (λ n. nat_lt n 2) bytes (at + 24) d.0 (at + 25) fits (omega arith) d.1 in
    let s4' : Stands bytes (at + 24) (bit (d.0 == 1) ∷ []) (at + 25) = s4.0 ∙ ap (λ n. n ∷ drop (at + 25) bytes) (sym (bit_spelled d.0 s4.1)) in
    let s34 = stands_then bytes (at + 16) (eight c.0) (at + 24) (bit (d.0 == 1) ∷ []) (at + 25) s3 s4' in
    let s24 = stands_then bytes (at + 8) (eight b.0) (at + 16) (eight c.0 ++ bit (d.0 == 1) ∷ []) (at + 25) s2 s34 in
    let s14 = stands_then bytes at (eight a.0) (at + 8) (eight b.0 ++ (eight c.0 ++ bit (d.0 == 1) ∷ [])) (at + 25) s1 s24 in
    record { id = a.0; src = b.0; dst = c.0; directed = d.0 == 1; is = ok_is (make a.0 b.0 c.0 (d.0 == 1)) y d.2; stands = s14 }

-- ---- a value's change

value_spelled : (n : ℕ) → value_bytes (value_of n) ≡ four n
value_spelled n =
    elim (n == 0) as (λ b. (n == 0) ≡ b → value_bytes (cond b None (Some (n - 1))) ≡ four n) [
      | true ↦ λ e. ap four (sym (eqb-true n 0 e))
      | false ↦ λ e. let some : n ≢ 0 = eqb-false n 0 e in ap four (omega arith)
    ] refl

abbrev value_text : ℕ → ℕ → Option ℕ → Option ℕ → List ℕ
value_text id key old new = eight id ++ (four key ++ (value_bytes old ++ value_bytes new))

record ValueRead (make : ℕ → ℕ → Option ℕ → Option ℕ → Body) (bytes : List ℕ) (at : ℕ) (y : Body) : Type 0 where
  id : ℕ
  key : ℕ
  old : Option ℕ
  new : Option ℕ
  is : make id key old new ≡ y
  stands : Stands bytes at (value_text id key old new) (at + 20)

value_read : (make : ℕ → ℕ → Option ℕ → Option ℕ → Body) (names : ℕ) (bytes : List ℕ) (at : ℕ) (y : Body) → IsBytes bytes → value_fields make names bytes at ≡ Ok y → ValueRead make bytes at y
value_read make names bytes at y fits e =
    let last : ℕ → ℕ → ℕ → ℕ → Result Body ℕ = λ id key old new. Ok (make id key (value_of old) (value_of new)) in
    let is_key : ℕ → Bool = λ n. nat_lt n names in
    let is_old : ℕ → Bool = λ n. nat_le n names in
    let is_new : ℕ → ℕ → Bool = λ old n. nat_le n names && not (old == 0 && n == 0) in
    let a = bind_ok (eight_bytes any_number bytes at) (λ id. and_read (four_bytes is_key bytes (at + 8)) (λ key. and_read (four_bytes is_old bytes (at + 12)) (λ old. and_read (four_bytes (is_new old) bytes (at + 16)) (last id key old)))) y e in
    let b = bind_ok (four_bytes is_key bytes (at + 8)) (λ key. and_read (four_bytes is_old bytes (at + 12)) (λ old. and_read (four_bytes (is_new old) bytes (at + 16)) (last a.0 key old))) y a.2 in
    let c = bind_ok (four_bytes is_old bytes (at + 12)) (λ old. and_read (four_bytes (is_new old) bytes (at + 16)) (last a.0 b.0 old)) y b.2 in
    let d = bind_ok (four_bytes (is_new c.0) bytes (at + 16)) (last a.0 b.0 c.0) y c.2 in
    let s1 = eight_stands any_number bytes at a.0 (at + 8) fits refl a.1 in
    let s2 = four_stands is_key bytes (at + 8) b.0 (at + 12) fits (omega arith) b.1 in
    let s3 = four_stands is_old bytes (at + 12) c.0 (at + 16) fits (omega arith) c.1 in
    let s4 = four_stands (is_new c.0) bytes (at + 16) d.0 (at + 20) fits (omega arith) d.1 in
    let s3' : Stands bytes (at + 12) (value_bytes (value_of c.0)) (at + 16) = s3 ∙ ap (λ (t : List ℕ). t ++ drop (at + 16) bytes) (sym (value_spelled c.0)) in
    let s4' : Stands bytes (at + 16) (value_bytes (value_of d.0)) (at + 20) = s4 ∙ ap (λ (t : List ℕ). t ++ drop (at + 20) bytes) (sym (value_spelled d.0)) in
    let s34 = stands_then bytes (at + 12) (value_bytes (value_of c.0)) (at + 16) (value_bytes (value_of d.0)) (at + 20) s3' s4' in
    let s24 = stands_then bytes (at + 8) (four b.0) (at + 12) (value_bytes (value_of c.0) ++ value_bytes (value_of d.0)) (at + 20) s2 s34 in
    let s14 = stands_then bytes at (eight a.0) (at + 8) (four b.0 ++ (value_bytes (value_of c.0) ++ value_bytes (value_of d.0))) (at + 20) s1 s24 in
    record { id = a.0; key = b.0; old = value_of c.0; new = value_of d.0; is = ok_is (make a.0 b.0 (value_of c.0) (value_of d.0)) y d.2; stands = s14 }

-- ---- what an event changes

and_second : (a b : Bool) → (a && b) ≡ true → b ≡ true
and_second true b e = e
and_second false b e = absurd cc

-- the kind, and what stands behind it
behind_kind : (bytes : List ℕ) (at kind next : ℕ) (text : List ℕ) → Stands bytes at (one kind) (at + 1) → Stands bytes (at + 1) text next → Stands bytes at (kind ∷ text) next
behind_kind bytes at kind next text p q = stands_then bytes at (one kind) (at + 1) text next p q

abbrev BodyStands : List ℕ → ℕ → Body → Type 0
BodyStands bytes at what = Stands bytes at (body_bytes what) (at + body_size what)

node_body : (kind : ℕ) (make : ℕ → Body) (bytes : List ℕ) (at : ℕ) (what : Body) → ((id : ℕ) → body_bytes (make id) ≡ kind ∷ eight id) → ((id : ℕ) → body_size (make id) ≡ 9)
    → IsBytes bytes → Stands bytes at (one kind) (at + 1) → and_read (eight_bytes any_number bytes (at + 1)) (λ id. Ok (make id)) ≡ Ok what → BodyStands bytes at what
node_body kind make bytes at what text size fits first e =
    let a = bind_ok (eight_bytes any_number bytes (at + 1)) (λ id. Ok (make id)) what e in
    let s = eight_stands any_number bytes (at + 1) a.0 (at + 9) fits (omega arith) a.1 in
    let whole : Stands bytes at (kind ∷ eight a.0) (at + 9) = behind_kind bytes at kind (at + 9) (eight a.0) first s in
    subst (BodyStands bytes at) (ok_is (make a.0) what a.2)
    (whole ∙ (λ i. sym (text a.0) i ++ drop (at + sym (size a.0) i) bytes))

edge_body : (kind : ℕ) (make : ℕ → ℕ → ℕ → Bool → Body) (bytes : List ℕ) (at : ℕ) (what : Body) → ((id src dst : ℕ) (d : Bool) → body_bytes (make id src dst d) ≡ kind ∷ edge_text id src dst d) → ((id src dst : ℕ) (d : Bool) → body_size (make id src dst d) ≡ 26)
    → IsBytes bytes → Stands bytes at (one kind) (at + 1) → edge_fields make bytes (at + 1) ≡ Ok what → BodyStands bytes at what
edge_body kind make bytes at what text size fits first e =
    let r = edge_read make bytes (at + 1) what fits e in
    let s : Stands bytes (at + 1) (edge_text r.id r.src r.dst r.directed) (at + 26) = r.stands ∙ ap (λ n. edge_text r.id r.src r.dst r.directed ++ drop n bytes) (omega arith) in
    let whole : Stands bytes at (kind ∷ edge_text r.id r.src r.dst r.directed) (at + 26) = behind_kind bytes at kind (at + 26) (edge_text r.id r.src r.dst r.directed) first s in
    subst (BodyStands bytes at) r.is
    (whole ∙ (λ i. sym (text r.id r.src r.dst r.directed) i ++ drop (at + sym (size r.id r.src r.dst r.directed) i) bytes))

structure_stands : (kind : ℕ) (bytes : List ℕ) (at : ℕ) (what : Body) → (nat_le 1 kind && nat_le kind 4) ≡ true → IsBytes bytes → Stands bytes at (one kind) (at + 1) → structure_body kind bytes (at + 1) ≡ Ok what → BodyStands bytes at what
structure_stands zero bytes at what right fits first e = absurd cc
structure_stands (suc zero) bytes at what right fits first e =
    node_body 1 (λ id. body.NodeAdded id) bytes at what (λ id. refl) (λ id. refl) fits first e
structure_stands (suc (suc zero)) bytes at what right fits first e =
    node_body 2 (λ id. body.NodeRemoved id) bytes at what (λ id. refl) (λ id. refl) fits first e
structure_stands (suc (suc (suc zero))) bytes at what right fits first e =
    edge_body 3 (λ id src dst d. body.EdgeAdded d id src dst) bytes at what (λ id src dst d. refl) (λ id src dst d. refl) fits first e
structure_stands (suc (suc (suc (suc zero)))) bytes at what right fits first e =
    edge_body 4 (λ id src dst d. body.EdgeRemoved d id src dst) bytes at what (λ id src dst d. refl) (λ id src dst d. refl) fits first e
structure_stands (suc (suc (suc (suc (suc k))))) bytes at what right fits first e =
    absurd (omega (arith, leb-true _ 4 (and_second (nat_le 1 (suc (suc (suc (suc (suc k)))))) (nat_le (suc (suc (suc (suc (suc k))))) 4) right)))

body_stands : (col : Column) (names : ℕ) (bytes : List ℕ) (at : ℕ) (what : Body) → IsBytes bytes → body_at col names bytes at ≡ Ok what → BodyStands bytes at what
body_stands column.Structure names bytes at what fits e =
    let a = bind_ok (one_byte (λ n. nat_le 1 n && nat_le n 4) bytes at) (λ kind. structure_body kind bytes (at + 1)) what e in
    let s = field_stands w8 1 256 one spelling8 (λ n. nat_le 1 n && nat_le n 4) bytes at a.0 (at + 1) fits refl a.1 in
    structure_stands a.0 bytes at what s.1 fits s.0 a.2
body_stands column.NodeAttr names bytes at what fits e =
    let r = value_read (λ id key old new. body.NodeAttr key id old new) names bytes at what fits e in
    subst (BodyStands bytes at) r.is r.stands
body_stands column.EdgeAttr names bytes at what fits e =
    let r = value_read (λ id key old new. body.EdgeAttr key id old new) names bytes at what fits e in
    subst (BodyStands bytes at) r.is r.stands
body_stands column.Transient names bytes at what fits e =
    let is_name : ℕ → Bool = λ n. nat_lt n names in
    let last : ℕ → ℕ → ℕ → Result Body ℕ = λ src dst value. Ok (body.Message src dst value) in
    let a = bind_ok (eight_bytes any_number bytes at) (λ src. and_read (eight_bytes any_number bytes (at + 8)) (λ dst. and_read (four_bytes is_name bytes (at + 16)) (last src dst))) what e in
    let b = bind_ok (eight_bytes any_number bytes (at + 8)) (λ dst. and_read (four_bytes is_name bytes (at + 16)) (last a.0 dst)) what a.2 in
    let c = bind_ok (four_bytes is_name bytes (at + 16)) (last a.0 b.0) what b.2 in
    let s1 = eight_stands any_number bytes at a.0 (at + 8) fits refl a.1 in
    let s2 = eight_stands any_number bytes (at + 8) b.0 (at + 16) fits (omega arith) b.1 in
    let s3 = four_stands is_name bytes (at + 16) c.0 (at + 20) fits (omega arith) c.1 in
    let s23 = stands_then bytes (at + 8) (eight b.0) (at + 16) (four c.0) (at + 20) s2 s3 in
    let s13 : BodyStands bytes at (body.Message a.0 b.0 c.0) = stands_then bytes at (eight a.0) (at + 8) (eight b.0 ++ four c.0) (at + 20) s1 s23 in
    subst (BodyStands bytes at) (ok_is (body.Message a.0 b.0 c.0) what c.2) s13

-- ---- events

abbrev PlacedStands : List ℕ → ℕ → Placed → Type 0
PlacedStands bytes at p = Stands bytes at (placed_bytes p) (at + 10 + body_size p.event.body)

placed_stands : (col : Column) (names : ℕ) (bytes : List ℕ) (at low earliest : ℕ) (p : Placed) → IsBytes bytes → placed_at col names bytes at low earliest ≡ Ok p → PlacedStands bytes at p
placed_stands col names bytes at low earliest p fits e =
    let made : ℕ → ℕ → Body → Placed = λ position time what. record { at = position; event = record { time = time; body = what } } in
    let is_position : ℕ → Bool = λ n. nat_le low n in
    let is_time : ℕ → Bool = λ n. nat_le earliest n && nat_le n TIME_MAX in
    let a = bind_ok (two_bytes is_position bytes at) (λ position. and_read (eight_bytes is_time bytes (at + 2)) (λ time. and_read (body_at col names bytes (at + 10)) (λ what. Ok (made position time what)))) p e in
    let b = bind_ok (eight_bytes is_time bytes (at + 2)) (λ time. and_read (body_at col names bytes (at + 10)) (λ what. Ok (made a.0 time what))) p a.2 in
    let c = bind_ok (body_at col names bytes (at + 10)) (λ what. Ok (made a.0 b.0 what)) p b.2 in
    let s1 = (field_stands w16 2 (2 ^ 16) two spelling16 is_position bytes at a.0 (at + 2) fits refl a.1).0 in
    let s2 = eight_stands is_time bytes (at + 2) b.0 (at + 10) fits (omega arith) b.1 in
    let s3 = body_stands col names bytes (at + 10) c.0 fits c.1 in
    let s23 = stands_then bytes (at + 2) (eight b.0) (at + 10) (body_bytes c.0) (at + 10 + body_size c.0) s2 s3 in
    let s13 = stands_then bytes at (two a.0) (at + 2) (eight b.0 ++ body_bytes c.0) (at + 10 + body_size c.0) s1 s23 in
    subst (PlacedStands bytes at) (ok_is (made a.0 b.0 c.0) p c.2) s13

-- the bytes from the offset on spell so many events
record EventsRead (k : ℕ) (bytes : List ℕ) (at : ℕ) (ps : List Placed) : Type 0 where
  text : drop at bytes ≡ flat_map placed_bytes ps
  len : length ps ≡ k

ended_at : (bytes : List ℕ) (at : ℕ) (ps : List Placed) → end_at [] bytes at ≡ Ok ps → EventsRead 0 bytes at ps
ended_at bytes at ps e =
    let g = passed (length bytes == at) at [] ps e in
    subst (EventsRead 0 bytes at) g.1 (record { text = drop_all at bytes (omega (arith, eqb-true (length bytes) at g.0)); len = refl })

events_stand : (k : ℕ) (col : Column) (names : ℕ) (bytes : List ℕ) (at low earliest : ℕ) (ps : List Placed) → IsBytes bytes → events_at k col names bytes at low earliest ≡ Ok ps → EventsRead k bytes at ps
events_stand zero col names bytes at low earliest ps fits e = ended_at bytes at ps e
events_stand (suc k) col names bytes at low earliest ps fits e =
    let a = bind_ok (placed_at col names bytes at low earliest) (λ p. and_read (events_after k col names bytes at p) (λ events. Ok (p ∷ events))) ps (sym (events_step k col names bytes at low earliest) ∙ e) in
    let p = a.0 in
    let next = at + 10 + body_size p.event.body in
    let b = bind_ok (events_after k col names bytes at p) (λ events. Ok (p ∷ events)) ps a.2 in
    let first = placed_stands col names bytes at low earliest p fits a.1 in
    let rest = events_stand k col names bytes next (p.at + 1) p.event.time b.0 fits b.1 in
    subst (EventsRead (suc k) bytes at) (ok_is (p ∷ b.0) ps b.2)
    (record { text = first ∙ ap (λ (t : List ℕ). placed_bytes p ++ t) rest.text; len = ap suc rest.len })

events_spelled_at : (col : Column) (names : ℕ) (bytes : List ℕ) (placed : List Placed) → IsBytes bytes → events_in col names bytes ≡ Ok placed → bytes ≡ counted placed
events_spelled_at col names [] placed fits e = ap counted (ok_is [] placed e)
events_spelled_at col names (b ∷ more) placed fits e =
    let bytes : List ℕ = b ∷ more in
    let a = bind_ok (four_bytes (λ n. nat_le 1 n) bytes 0) (λ count. events_at count col names bytes 4 0 0) placed e in
    let s = field_stands w32 4 (2 ^ 32) four spelling32 (λ n. nat_le 1 n) bytes 0 a.0 4 fits (omega arith) a.1 in
    let r = events_stand a.0 col names bytes 4 0 0 placed fits a.2 in
    let some : 0 < length placed = omega (arith, r.len, leb-true 1 a.0 s.1) in
    s.0 ∙ ap (λ (t : List ℕ). four a.0 ++ t) r.text ∙ ap (λ n. four n ++ flat_map placed_bytes placed) (sym r.len) ∙ sym (counted_some placed some)

pub events_spelled : EventsHaveOneSpelling
events_spelled = λ col names bytes placed all e. events_spelled_at col names bytes placed (bytes_from_all bytes all) e

-- ---- a delta

record AttrRead (make : ℕ → ℕ → ℕ → Element) (bytes : List ℕ) (at : ℕ) (y : Element) : Type 0 where
  id : ℕ
  key : ℕ
  value : ℕ
  is : make id key value ≡ y
  stands : Stands bytes at (eight id ++ (four key ++ four value)) (at + 16)

attr_read : (make : ℕ → ℕ → ℕ → Element) (names : ℕ) (bytes : List ℕ) (at : ℕ) (y : Element) → IsBytes bytes → value_element make names bytes at ≡ Ok y → AttrRead make bytes at y
attr_read make names bytes at y fits e =
    let last : ℕ → ℕ → ℕ → Result Element ℕ = λ id key value. Ok (make id key value) in
    let is_name : ℕ → Bool = λ n. nat_lt n names in
    let a = bind_ok (eight_bytes any_number bytes at) (λ id. and_read (four_bytes is_name bytes (at + 8)) (λ key. and_read (four_bytes is_name bytes (at + 12)) (last id key))) y e in
    let b = bind_ok (four_bytes is_name bytes (at + 8)) (λ key. and_read (four_bytes is_name bytes (at + 12)) (last a.0 key)) y a.2 in
    let c = bind_ok (four_bytes is_name bytes (at + 12)) (last a.0 b.0) y b.2 in
    let s1 = eight_stands any_number bytes at a.0 (at + 8) fits refl a.1 in
    let s2 = four_stands is_name bytes (at + 8) b.0 (at + 12) fits (omega arith) b.1 in
    let s3 = four_stands is_name bytes (at + 12) c.0 (at + 16) fits (omega arith) c.1 in
    let s23 = stands_then bytes (at + 8) (four b.0) (at + 12) (four c.0) (at + 16) s2 s3 in
    let s13 = stands_then bytes at (eight a.0) (at + 8) (four b.0 ++ four c.0) (at + 16) s1 s23 in
    record { id = a.0; key = b.0; value = c.0; is = ok_is (make a.0 b.0 c.0) y c.2; stands = s13 }

abbrev ElementStands : List ℕ → ℕ → Element → Type 0
ElementStands bytes at x = Stands bytes at (element_bytes x) (at + element_size x)

structure_element_stands : (kind : ℕ) (bytes : List ℕ) (at : ℕ) (x : Element) → (nat_le 1 kind && nat_le kind 2) ≡ true → IsBytes bytes → Stands bytes at (one kind) (at + 1)
    → cond (kind == 1) (and_read (eight_bytes any_number bytes (at + 1)) (λ id. Ok (element.Node id))) (edge_fields (λ id src dst directed. element.Edge directed id src dst) bytes (at + 1)) ≡ Ok x → ElementStands bytes at x
structure_element_stands zero bytes at x right fits first e = absurd cc
structure_element_stands (suc zero) bytes at x right fits first e =
    let a = bind_ok (eight_bytes any_number bytes (at + 1)) (λ id. Ok (element.Node id)) x e in
    let s = eight_stands any_number bytes (at + 1) a.0 (at + 9) fits (omega arith) a.1 in
    let whole : ElementStands bytes at (element.Node a.0) = behind_kind bytes at 1 (at + 9) (eight a.0) first s in
    subst (ElementStands bytes at) (ok_is (element.Node a.0) x a.2) whole
structure_element_stands (suc (suc zero)) bytes at x right fits first e =
    let r = edge_read (λ id src dst directed. element.Edge directed id src dst) bytes (at + 1) x fits e in
    let s : Stands bytes (at + 1) (edge_text r.id r.src r.dst r.directed) (at + 26) = r.stands ∙ ap (λ n. edge_text r.id r.src r.dst r.directed ++ drop n bytes) (omega arith) in
    let whole : ElementStands bytes at (element.Edge r.directed r.id r.src r.dst) = behind_kind bytes at 2 (at + 26) (edge_text r.id r.src r.dst r.directed) first s in
    subst (ElementStands bytes at) r.is whole
structure_element_stands (suc (suc (suc k))) bytes at x right fits first e =
    absurd (omega (arith, leb-true _ 2 (and_second (nat_le 1 (suc (suc (suc k)))) (nat_le (suc (suc (suc k))) 2) right)))

element_stands : (col : Column) (names : ℕ) (bytes : List ℕ) (at : ℕ) (x : Element) → IsBytes bytes → element_at col names bytes at ≡ Ok x → ElementStands bytes at x
element_stands column.Structure names bytes at x fits e =
    let a = bind_ok (one_byte (λ n. nat_le 1 n && nat_le n 2) bytes at) (λ kind. cond (kind == 1) (and_read (eight_bytes any_number bytes (at + 1)) (λ id. Ok (element.Node id))) (edge_fields (λ id src dst directed. element.Edge directed id src dst) bytes (at + 1))) x e in
    let s = field_stands w8 1 256 one spelling8 (λ n. nat_le 1 n && nat_le n 2) bytes at a.0 (at + 1) fits refl a.1 in
    structure_element_stands a.0 bytes at x s.1 fits s.0 a.2
element_stands column.NodeAttr names bytes at x fits e =
    let r = attr_read (λ id key value. element.NodeAttr id key value) names bytes at x fits e in
    subst (ElementStands bytes at) r.is r.stands
element_stands column.EdgeAttr names bytes at x fits e =
    let r = attr_read (λ id key value. element.EdgeAttr id key value) names bytes at x fits e in
    subst (ElementStands bytes at) r.is r.stands
element_stands column.Transient names bytes at x fits e = absurd cc

-- so many elements are spelled from the offset on, up to another
record ElementsRead (k : ℕ) (bytes : List ℕ) (at : ℕ) (read : List Element × ℕ) : Type 0 where
  stands : Stands bytes at (flat_map element_bytes read.0) read.1
  len : length read.0 ≡ k

elements_stand : (k : ℕ) (col : Column) (names : ℕ) (bytes : List ℕ) (others : List Element) (at : ℕ) (last : Option Element) (read : List Element × ℕ) → IsBytes bytes → elements_at k col names bytes others at last ≡ Ok read → ElementsRead k bytes at read
elements_stand zero col names bytes others at last read fits e =
    let none : List Element × ℕ = ([], at) in
    subst (ElementsRead 0 bytes at) (ok_is none read e) (record { stands = refl; len = refl })
elements_stand (suc k) col names bytes others at last read fits e =
    let a = bind_ok (next_element_at col names bytes others at last) (λ x. and_read (elements_at k col names bytes others (at + element_size x) (Some x)) (λ more. Ok (x ∷ more.0, more.1))) read (sym (elements_step col names bytes others k at last) ∙ e) in
    let x = a.0 in
    let b = bind_ok (elements_at k col names bytes others (at + element_size x) (Some x)) (λ more. Ok (x ∷ more.0, more.1)) read a.2 in
    let c = bind_ok (element_at col names bytes at) (λ y. cond (rises_from last y && not (has others y)) (Ok y) (Err at)) x a.1 in
    let d = passed (rises_from last c.0 && not (has others c.0)) at c.0 x c.2 in
    let first : ElementStands bytes at x = subst (ElementStands bytes at) d.1 (element_stands col names bytes at c.0 fits c.1) in
    let rest = elements_stand k col names bytes others (at + element_size x) (Some x) b.0 fits b.1 in
    let whole : List Element × ℕ = (x ∷ b.0.0, b.0.1) in
    subst (ElementsRead (suc k) bytes at) (ok_is whole read b.2)
    (record { stands = stands_then bytes at (element_bytes x) (at + element_size x) (flat_map element_bytes b.0.0) b.0.1 first rest.stands; len = ap suc rest.len })

pub parts_some : (minus plus : List Element) → not (length minus == 0 && length plus == 0) ≡ true → parts_bytes minus plus ≡ part_bytes minus ++ part_bytes plus
parts_some [] [] e = absurd cc
parts_some [] (y ∷ plus) e = refl
parts_some (x ∷ minus) plus e = refl

part_spelled : (count : ℕ) (set : List Element) → length set ≡ count → four count ++ flat_map element_bytes set ≡ part_bytes set
part_spelled count set e = ap (λ n. four n ++ flat_map element_bytes set) (sym e)

changes_spelled : (col : Column) (names : ℕ) (bytes : List ℕ) (d : Delta) → IsBytes bytes → changes_in col names bytes ≡ Ok d → bytes ≡ parts_bytes d.minus d.plus
changes_spelled col names [] d fits e =
    let none : Delta = record { minus = []; plus = [] } in
    ap (λ (x : Delta). parts_bytes x.minus x.plus) (ok_is none d e)
changes_spelled col names (b ∷ more) d fits e =
    let bytes : List ℕ = b ∷ more in
    let is_count : ℕ → ℕ → Bool = λ out n. not (out == 0 && n == 0) in
    let made : List Element × ℕ → List Element × ℕ → Delta = λ minus plus. record { minus = minus.0; plus = plus.0 } in
    let a = bind_ok (four_bytes any_number bytes 0) (λ out. and_read (elements_at out col names bytes [] 4 None) (λ minus. and_read (four_bytes (is_count out) bytes minus.1) (λ in_count. and_read (elements_at in_count col names bytes minus.0 (minus.1 + 4) None) (λ plus. end_at (made minus plus) bytes plus.1)))) d e in
    let m = bind_ok (elements_at a.0 col names bytes [] 4 None) (λ minus. and_read (four_bytes (is_count a.0) bytes minus.1) (λ in_count. and_read (elements_at in_count col names bytes minus.0 (minus.1 + 4) None) (λ plus. end_at (made minus plus) bytes plus.1))) d a.2 in
    let n = bind_ok (four_bytes (is_count a.0) bytes m.0.1) (λ in_count. and_read (elements_at in_count col names bytes m.0.0 (m.0.1 + 4) None) (λ plus. end_at (made m.0 plus) bytes plus.1)) d m.2 in
    let p = bind_ok (elements_at n.0 col names bytes m.0.0 (m.0.1 + 4) None) (λ plus. end_at (made m.0 plus) bytes plus.1) d n.2 in
    let g = passed (length bytes == p.0.1) p.0.1 (made m.0 p.0) d p.2 in
    let s1 = four_stands any_number bytes 0 a.0 4 fits (omega arith) a.1 in
    let s2 = elements_stand a.0 col names bytes [] 4 None m.0 fits m.1 in
    let s3 = field_stands w32 4 (2 ^ 32) four spelling32 (is_count a.0) bytes m.0.1 n.0 (m.0.1 + 4) fits refl n.1 in
    let s4 = elements_stand n.0 col names bytes m.0.0 (m.0.1 + 4) None p.0 fits p.1 in
    let behind : drop p.0.1 bytes ≡ [] = drop_all p.0.1 bytes (omega (arith, eqb-true (length bytes) p.0.1 g.0)) in
    let out_part = stands_then bytes 0 (four a.0) 4 (flat_map element_bytes m.0.0) m.0.1 s1 s2.stands in
    let in_part = stands_then bytes m.0.1 (four n.0) (m.0.1 + 4) (flat_map element_bytes p.0.0) p.0.1 s3.0 s4.stands in
    let whole = stands_then bytes 0 (four a.0 ++ flat_map element_bytes m.0.0) m.0.1 (four n.0 ++ flat_map element_bytes p.0.0) p.0.1 out_part in_part in
    let out_is = part_spelled a.0 m.0.0 s2.len in
    let in_is = part_spelled n.0 p.0.0 s4.len in
    let some : not (length m.0.0 == 0 && length p.0.0 == 0) ≡ true = (λ i. not (s2.len i == 0 && s4.len i == 0)) ∙ s3.1 in
    let spelled : bytes ≡ parts_bytes m.0.0 p.0.0 = whole ∙ (λ i. (out_is i ++ in_is i) ++ behind i) ∙ append-nil (part_bytes m.0.0 ++ part_bytes p.0.0) ∙ sym (parts_some m.0.0 p.0.0 some) in
    spelled ∙ ap (λ (x : Delta). parts_bytes x.minus x.plus) g.1

none_spelled : (bytes : List ℕ) (d : Delta) → no_changes_in bytes ≡ Ok d → bytes ≡ parts_bytes d.minus d.plus
none_spelled [] d e =
    let none : Delta = record { minus = []; plus = [] } in
    ap (λ (x : Delta). parts_bytes x.minus x.plus) (ok_is none d e)
none_spelled (b ∷ more) d e = absurd cc

delta_spelled_at : (col : Column) (names : ℕ) (bytes : List ℕ) (d : Delta) → IsBytes bytes → delta_in col names bytes ≡ Ok d → bytes ≡ parts_bytes d.minus d.plus
delta_spelled_at column.Structure names bytes d fits e = changes_spelled column.Structure names bytes d fits e
delta_spelled_at column.NodeAttr names bytes d fits e = changes_spelled column.NodeAttr names bytes d fits e
delta_spelled_at column.EdgeAttr names bytes d fits e = changes_spelled column.EdgeAttr names bytes d fits e
delta_spelled_at column.Transient names bytes d fits e = none_spelled bytes d e

pub delta_spelled : DeltasHaveOneSpelling
delta_spelled = λ col names bytes d all e. delta_spelled_at col names bytes d (bytes_from_all bytes all) e
