-- The names that columns are read with are there.
use Rattle.std.proofs.Common.{◌≡◌, ℕ, zero, suc, ◌+◌, ◌-◌, ◌<◌, Bool, true, false, cond, ltb, not, ◌&&◌, List, [], ◌∷◌, length, take, drop, map, Option, Some, None, Result, Ok, Err, refl, sym, ap, subst, ◌∙◌, arith}
use Rattle.std.specs.Prelude.{◌==◌, IfSome, nat_lt, nat_le}
use Rattle.std.specs.Int.{w32, from_be_bytes}
use Rattle.std.specs.List.{All}
use Rattle.std.proofs.lemmas.Bool.{leb-true, eqb-false}
use Rattle.std.proofs.lemmas.List.Elements.{All-nil, All-cons}
use Rattle.dg_columns.proofs.ReadFitsDeltas.{name_bound}
use Rattle.dg_columns.proofs.FieldElements.{bind_ok, elements_are, ok_is, passed}
use Rattle.dg_columns.proofs.Fields.{field_ok}
use Rattle.dg_graph.specs.ColumnGrammar.{and_read, any_number, body_at, body_size, changes_in, delta_in, edge_fields, eight_bytes, element_at, element_size, elements_at, end_at, events_at, events_in, four_bytes, one_byte, rises_from, structure_body, two_bytes, value_element, value_fields, value_of}
use Rattle.dg_graph.specs.Composition.{Delta}
use Rattle.dg_graph.specs.declared.element.Column.{Column}
use Rattle.dg_graph.specs.declared.element.Column.TheVariants as column
use Rattle.dg_graph.specs.declared.element.Element.{Element}
use Rattle.dg_graph.specs.declared.element.Element.TheVariants as element
use Rattle.dg_graph.specs.declared.event.Body.{Body}
use Rattle.dg_graph.specs.declared.event.Body.TheVariants as body
use Rattle.dg_graph.specs.declared.event.Event.{Event}
use Rattle.dg_graph.specs.declared.limits.TheConstants.{TIME_MAX}
use Rattle.dg_graph.specs.declared.placed.Placed.{Placed}
use Rattle.dg_graph.specs.Elements.{has}
use Rattle.dg_retrieval.specs.NamesThere.{BodyHasNamesThere, ChangeHasNamesThere, HasNamesThere, NamesAreThere}
use Rattle.dg_retrieval.proofs.PutElements.{of_more, of_none}

-- the names that a delta has are there
abbrev pub DeltaHasNamesThere : ℕ → Delta → Type 0
DeltaHasNamesThere name_count d = NamesAreThere name_count d.minus × NamesAreThere name_count d.plus

module _ (names : ℕ) where
  abbrev EventThere : Event → Type 0
  EventThere e = BodyHasNamesThere names e.body

  abbrev DeltaThere : Delta → Type 0
  DeltaThere = DeltaHasNamesThere names

  module _ (bytes : List ℕ) where
    made_value : (make : ℕ → ℕ → ℕ → Element) (at : ℕ) (x : Element) → ((id key value : ℕ) → (key < names) × (value < names) → HasNamesThere names (make id key value)) → value_element make names bytes at ≡ Ok x → HasNamesThere names x
    made_value make at x made e =
        let name : ℕ → Bool = λ n. nat_lt n names in
        let a = bind_ok (eight_bytes any_number bytes at) (λ id. and_read (four_bytes name bytes (at + 8)) (λ key. and_read (four_bytes name bytes (at + 12)) (λ value. Ok (make id key value)))) x e in
        let b = bind_ok (four_bytes name bytes (at + 8)) (λ key. and_read (four_bytes name bytes (at + 12)) (λ value. Ok (make a.0 key value))) x a.2 in
        let c = bind_ok (four_bytes name bytes (at + 12)) (λ value. Ok (make a.0 b.0 value)) x b.2 in
        subst (HasNamesThere names) (ok_is (make a.0 b.0 c.0) x c.2) (made a.0 b.0 c.0 (name_bound names bytes (at + 8) b.0 b.1, name_bound names bytes (at + 12) c.0 c.1))

    edge_read : {B : Type 0} (P : B → Type 0) (make : ℕ → ℕ → ℕ → Bool → B) (at : ℕ) (x : B) → ((id src dst : ℕ) (d : Bool) → P (make id src dst d)) → edge_fields make bytes at ≡ Ok x → P x
    edge_read {B} P make at x made e =
        let last : ℕ → ℕ → ℕ → ℕ → Result B ℕ = λ id src dst d. Ok (make id src dst (d == 1)) in
        let a = bind_ok (eight_bytes any_number bytes at) (λ id. and_read (eight_bytes any_number bytes (at + 8)) (λ src. and_read (eight_bytes any_number bytes (at + 16)) (λ dst. and_read (one_byte (λ n. nat_lt n 2) bytes (at + 24)) (last id src dst)))) x e in
        let b = bind_ok (eight_bytes any_number bytes (at + 8)) (λ src. and_read (eight_bytes any_number bytes (at + 16)) (λ dst. and_read (one_byte (λ n. nat_lt n 2) bytes (at + 24)) (last a.0 src dst))) x a.2 in
        let c = bind_ok (eight_bytes any_number bytes (at + 16)) (λ dst. and_read (one_byte (λ n. nat_lt n 2) bytes (at + 24)) (last a.0 b.0 dst)) x b.2 in
        let d = bind_ok (one_byte (λ n. nat_lt n 2) bytes (at + 24)) (last a.0 b.0 c.0) x c.2 in
        subst P (ok_is (make a.0 b.0 c.0 (d.0 == 1)) x d.2) (made a.0 b.0 c.0 (d.0 == 1))

    node_read : {B : Type 0} (P : B → Type 0) (make : ℕ → B) (at : ℕ) (x : B) → ((id : ℕ) → P (make id)) → and_read (eight_bytes any_number bytes at) (λ id. Ok (make id)) ≡ Ok x → P x
    node_read P make at x made e =
        let i = bind_ok (eight_bytes any_number bytes at) (λ id. Ok (make id)) x e in
        subst P (ok_is (make i.0) x i.2) (made i.0)

    element_there : (col : Column) (at : ℕ) (x : Element) → element_at col names bytes at ≡ Ok x → HasNamesThere names x
    element_there column.Structure at x e =
        let node : Result Element ℕ = and_read (eight_bytes any_number bytes (at + 1)) (λ id. Ok (element.Node id)) in
        let edge : Result Element ℕ = edge_fields (λ id src dst d. element.Edge d id src dst) bytes (at + 1) in
        let a = bind_ok (one_byte (λ n. nat_le 1 n && nat_le n 2) bytes at) (λ kind. cond (kind == 1) node edge) x e in
        elim (a.0 == 1) as (λ b. cond b node edge ≡ Ok x → HasNamesThere names x) [
          | true ↦ λ h. node_read (HasNamesThere names) (λ id. element.Node id) (at + 1) x (λ id. tt) h
          | false ↦ λ h. edge_read (HasNamesThere names) (λ id src dst d. element.Edge d id src dst) (at + 1) x (λ id src dst d. tt) h
        ] a.2
    element_there column.NodeAttr at x e = made_value (λ id key value. element.NodeAttr id key value) at x (λ id key value h. h) e
    element_there column.EdgeAttr at x e = made_value (λ id key value. element.EdgeAttr id key value) at x (λ id key value h. h) e
    element_there column.Transient at x e = absurd cc

    elements_there : (k : ℕ) (col : Column) (others : List Element) (at : ℕ) (last : Option Element) (xs : List Element) (n : ℕ) → elements_at k col names bytes others at last ≡ Ok (xs, n) → NamesAreThere names xs
    elements_there zero col others at last xs n e = subst (NamesAreThere names) (elements_are [] xs at n e) (of_none (HasNamesThere names))
    elements_there (suc k) col others at last xs n e =
        let rest : Element → Result (List Element × ℕ) ℕ = λ x. and_read (elements_at k col names bytes others (at + element_size x) (Some x)) (λ more. Ok (x ∷ more.0, more.1)) in
        let a = bind_ok (element_at col names bytes at) (λ x. cond (rises_from last x && not (has others x)) (rest x) (Err at)) (xs, n) e in
        let b = bind_ok (elements_at k col names bytes others (at + element_size a.0) (Some a.0)) (λ more. Ok (a.0 ∷ more.0, more.1)) (xs, n) (gone_on (rises_from last a.0 && not (has others a.0)) (rest a.0) a.2) in
        subst (NamesAreThere names) (elements_are (a.0 ∷ b.0.0) xs b.0.1 n b.2)
        (of_more (HasNamesThere names) a.0 b.0.0 (element_there col at a.0 a.1) (elements_there k col others (at + element_size a.0) (Some a.0) b.0.0 b.0.1 b.1))
      where
        gone_on : (t : Bool) (r : Result (List Element × ℕ) ℕ) → cond t r (Err at) ≡ Ok (xs, n) → r ≡ Ok (xs, n)
        gone_on true r h = h
        gone_on false r h = absurd cc

    value_within : (n : ℕ) → nat_le n names ≡ true → IfSome (value_of n) (λ v. v < names)
    value_within n h =
        elim (n == 0) as (λ t. (n == 0) ≡ t → IfSome (cond t None (Some (n - 1))) (λ v. v < names)) [
          | true ↦ λ e. tt
          | false ↦ λ e. omega (arith, leb-true n names h, eqb-false n 0 e)
        ] refl

    right_is : (right : ℕ → Bool) (at n : ℕ) → four_bytes right bytes at ≡ Ok n → right n ≡ true
    right_is right at n e =
        let v = from_be_bytes w32 (take 4 (drop at bytes)) in
        let g = field_ok (ltb (length bytes) (at + 4)) (right v) at v n e in
        ap right (sym g.2) ∙ g.1

    first_true : (a b : Bool) → (a && b) ≡ true → a ≡ true
    first_true true b e = refl
    first_true false b e = e

    change_there : (make : ℕ → ℕ → Option ℕ → Option ℕ → Body) (at : ℕ) (what : Body) → ((id key : ℕ) (old new : Option ℕ) → ChangeHasNamesThere names key old new → BodyHasNamesThere names (make id key old new)) → value_fields make names bytes at ≡ Ok what → BodyHasNamesThere names what
    change_there make at what made e =
        let last : ℕ → ℕ → ℕ → ℕ → Result Body ℕ = λ id key old new. Ok (make id key (value_of old) (value_of new)) in
        let is_key : ℕ → Bool = λ n. nat_lt n names in
        let is_old : ℕ → Bool = λ n. nat_le n names in
        let is_new : ℕ → ℕ → Bool = λ old n. nat_le n names && not (old == 0 && n == 0) in
        let a = bind_ok (eight_bytes any_number bytes at) (λ id. and_read (four_bytes is_key bytes (at + 8)) (λ key. and_read (four_bytes is_old bytes (at + 12)) (λ old. and_read (four_bytes (is_new old) bytes (at + 16)) (last id key old)))) what e in
        let b = bind_ok (four_bytes is_key bytes (at + 8)) (λ key. and_read (four_bytes is_old bytes (at + 12)) (λ old. and_read (four_bytes (is_new old) bytes (at + 16)) (last a.0 key old))) what a.2 in
        let c = bind_ok (four_bytes is_old bytes (at + 12)) (λ old. and_read (four_bytes (is_new old) bytes (at + 16)) (last a.0 b.0 old)) what b.2 in
        let d = bind_ok (four_bytes (is_new c.0) bytes (at + 16)) (last a.0 b.0 c.0) what c.2 in
        subst (BodyHasNamesThere names) (ok_is (make a.0 b.0 (value_of c.0) (value_of d.0)) what d.2)
        (made a.0 b.0 (value_of c.0) (value_of d.0) (
          name_bound names bytes (at + 8) b.0 b.1,
          value_within c.0 (right_is is_old (at + 12) c.0 c.1),
          value_within d.0 (first_true (nat_le d.0 names) (not (c.0 == 0 && d.0 == 0)) (right_is (is_new c.0) (at + 16) d.0 d.1)),
        ))

    structure_there : (kind at : ℕ) (what : Body) → structure_body kind bytes at ≡ Ok what → BodyHasNamesThere names what
    structure_there kind at what e = by (kind == 1) (kind == 2) (kind == 3) e
      where
        by : (a b c : Bool) → cond a (and_read (eight_bytes any_number bytes at) (λ id. Ok (body.NodeAdded id))) (cond b (and_read (eight_bytes any_number bytes at) (λ id. Ok (body.NodeRemoved id))) (cond c (edge_fields (λ id src dst d. body.EdgeAdded d id src dst) bytes at) (edge_fields (λ id src dst d. body.EdgeRemoved d id src dst) bytes at))) ≡ Ok what → BodyHasNamesThere names what
        by true b c e = node_read (BodyHasNamesThere names) (λ id. body.NodeAdded id) at what (λ id. tt) e
        by false true c e = node_read (BodyHasNamesThere names) (λ id. body.NodeRemoved id) at what (λ id. tt) e
        by false false true e = edge_read (BodyHasNamesThere names) (λ id src dst d. body.EdgeAdded d id src dst) at what (λ id src dst d. tt) e
        by false false false e = edge_read (BodyHasNamesThere names) (λ id src dst d. body.EdgeRemoved d id src dst) at what (λ id src dst d. tt) e

    body_there : (col : Column) (at : ℕ) (what : Body) → body_at col names bytes at ≡ Ok what → BodyHasNamesThere names what
    body_there column.Structure at what e =
        let k = bind_ok (one_byte (λ n. nat_le 1 n && nat_le n 4) bytes at) (λ kind. structure_body kind bytes (at + 1)) what e in
        structure_there k.0 (at + 1) what k.2
    body_there column.NodeAttr at what e = change_there (λ id key old new. body.NodeAttr key id old new) at what (λ id key old new h. h) e
    body_there column.EdgeAttr at what e = change_there (λ id key old new. body.EdgeAttr key id old new) at what (λ id key old new h. h) e
    body_there column.Transient at what e =
        let last : ℕ → ℕ → ℕ → Result Body ℕ = λ src dst value. Ok (body.Message src dst value) in
        let is_value : ℕ → Bool = λ n. nat_lt n names in
        let a = bind_ok (eight_bytes any_number bytes at) (λ src. and_read (eight_bytes any_number bytes (at + 8)) (λ dst. and_read (four_bytes is_value bytes (at + 16)) (last src dst))) what e in
        let b = bind_ok (eight_bytes any_number bytes (at + 8)) (λ dst. and_read (four_bytes is_value bytes (at + 16)) (last a.0 dst)) what a.2 in
        let c = bind_ok (four_bytes is_value bytes (at + 16)) (last a.0 b.0) what b.2 in
        subst (BodyHasNamesThere names) (ok_is (body.Message a.0 b.0 c.0) what c.2) (name_bound names bytes (at + 16) c.0 c.1)

    abbrev events_of_placed : List Placed → List Event
    events_of_placed placed = map (λ (p : Placed). p.event) placed

    events_there : (k : ℕ) (col : Column) (at low earliest : ℕ) (placed : List Placed) → events_at k col names bytes at low earliest ≡ Ok placed → All EventThere (events_of_placed placed)
    events_there zero col at low earliest placed e =
        let nothing : List Placed = [] in
        subst (λ (ps : List Placed). All EventThere (events_of_placed ps)) (passed (length bytes == at) at nothing placed e).1 (All-nil EventThere)
    events_there (suc k) col at low earliest placed e =
        let is_time : ℕ → Bool = λ n. nat_le earliest n && nat_le n TIME_MAX in
        let after : ℕ → ℕ → Body → Result (List Placed) ℕ =
        λ position time what. and_read (events_at k col names bytes (at + 10 + body_size what) (position + 1) time) (λ events. Ok (record { at = position; event = record { time = time; body = what } } ∷ events)) in
        let x = bind_ok (two_bytes (λ n. nat_le low n) bytes at) (λ position. and_read (eight_bytes is_time bytes (at + 2)) (λ time. and_read (body_at col names bytes (at + 10)) (after position time))) placed e in
        let y = bind_ok (eight_bytes is_time bytes (at + 2)) (λ time. and_read (body_at col names bytes (at + 10)) (after x.0 time)) placed x.2 in
        let z = bind_ok (body_at col names bytes (at + 10)) (after x.0 y.0) placed y.2 in
        let p : Placed = record { at = x.0; event = record { time = y.0; body = z.0 } } in
        let w = bind_ok (events_at k col names bytes (at + 10 + body_size z.0) (x.0 + 1) y.0) (λ events. Ok (p ∷ events)) placed z.2 in
        subst (λ (ps : List Placed). All EventThere (events_of_placed ps)) (ok_is (p ∷ w.0) placed w.2)
        (All-cons EventThere p.event (events_of_placed w.0) (body_there col (at + 10) z.0 z.1) (events_there k col (at + 10 + body_size z.0) (x.0 + 1) y.0 w.0 w.1))

  pub read_events_there : (col : Column) (bytes : List ℕ) (placed : List Placed) → events_in col names bytes ≡ Ok placed → All EventThere (map (λ (p : Placed). p.event) placed)
  read_events_there col [] placed e =
      let nothing : List Placed = [] in
      subst (λ (ps : List Placed). All EventThere (map (λ (p : Placed). p.event) ps)) (ok_is nothing placed e) (All-nil EventThere)
  read_events_there col (b ∷ bytes) placed e =
      let c = bind_ok (four_bytes (λ n. nat_le 1 n) (b ∷ bytes) 0) (λ count. events_at count col names (b ∷ bytes) 4 0 0) placed e in
      events_there (b ∷ bytes) c.0 col 4 0 0 placed c.2

  none_there : (d : Delta) → record { minus = []; plus = [] } ≡ d → DeltaThere d
  none_there d is = subst DeltaThere is (of_none (HasNamesThere names), of_none (HasNamesThere names))

  changes_there : (col : Column) (bytes : List ℕ) (d : Delta) → changes_in col names bytes ≡ Ok d → DeltaThere d
  changes_there col [] d e = none_there d (ok_is (record { minus = []; plus = [] }) d e)
  changes_there col (b0 ∷ more) d e =
      let bytes : List ℕ = b0 ∷ more in
      let is_count : ℕ → ℕ → Bool = λ out n. not (out == 0 && n == 0) in
      let made : List Element × ℕ → List Element × ℕ → Delta = λ m p. record { minus = m.0; plus = p.0 } in
      let a = bind_ok (four_bytes any_number bytes 0) (λ out. and_read (elements_at out col names bytes [] 4 None) (λ m. and_read (four_bytes (is_count out) bytes m.1) (λ in_count. and_read (elements_at in_count col names bytes m.0 (m.1 + 4) None) (λ p. end_at (made m p) bytes p.1)))) d e in
      let m = bind_ok (elements_at a.0 col names bytes [] 4 None) (λ m. and_read (four_bytes (is_count a.0) bytes m.1) (λ in_count. and_read (elements_at in_count col names bytes m.0 (m.1 + 4) None) (λ p. end_at (made m p) bytes p.1))) d a.2 in
      let c = bind_ok (four_bytes (is_count a.0) bytes m.0.1) (λ in_count. and_read (elements_at in_count col names bytes m.0.0 (m.0.1 + 4) None) (λ p. end_at (made m.0 p) bytes p.1)) d m.2 in
      let p = bind_ok (elements_at c.0 col names bytes m.0.0 (m.0.1 + 4) None) (λ p. end_at (made m.0 p) bytes p.1) d c.2 in
      subst DeltaThere (passed (length bytes == p.0.1) p.0.1 (made m.0 p.0) d p.2).1
      (elements_there bytes a.0 col [] 4 None m.0.0 m.0.1 m.1, elements_there bytes c.0 col m.0.0 (m.0.1 + 4) None p.0.0 p.0.1 p.1)

  pub read_delta_there : (col : Column) (bytes : List ℕ) (d : Delta) → delta_in col names bytes ≡ Ok d → DeltaThere d
  read_delta_there column.Structure bytes d e = changes_there column.Structure bytes d e
  read_delta_there column.NodeAttr bytes d e = changes_there column.NodeAttr bytes d e
  read_delta_there column.EdgeAttr bytes d e = changes_there column.EdgeAttr bytes d e
  read_delta_there column.Transient [] d e = none_there d (ok_is (record { minus = []; plus = [] }) d e)
  read_delta_there column.Transient (b ∷ bytes) d e = absurd cc
