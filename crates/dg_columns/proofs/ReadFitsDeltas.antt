-- What is read of a delta's column fits.
use Rattle.std.proofs.Common.{◌≡◌, ℕ, zero, suc, ◌+◌, ◌<◌, ◌^◌, Bool, true, false, cond, ltb, List, [], ◌∷◌, length, take, drop, Option, Some, None, Result, Ok, Err, refl, sym, ap, subst, ◌∙◌, arith}
use Rattle.std.specs.Prelude.{not, ◌&&◌, ◌==◌, nat_lt, nat_le}
use Rattle.std.specs.Int.{w32, w64, from_be_bytes}
use Rattle.std.proofs.lemmas.Bool.{ltb-true}
use Rattle.std.proofs.lemmas.List.{get_or_default}
use Rattle.dg_columns.specs.ColumnLaws.{AreBytes}
use Rattle.dg_graph.specs.declared.element.Column.{Column}
use Rattle.dg_graph.specs.declared.element.Column.TheVariants as column
use Rattle.dg_graph.specs.declared.element.Element.{Element}
use Rattle.dg_graph.specs.declared.element.Element.TheVariants as element
use Rattle.dg_graph.specs.Columns.{same_column, in_column}
use Rattle.dg_graph.specs.Composition.{Delta}
use Rattle.dg_graph.specs.Elements.{column_of, has}
use Rattle.dg_graph.specs.ColumnGrammar.{no_changes_in, changes_in, and_read, any_number, one_byte, four_bytes, eight_bytes, edge_fields, value_element, element_at, element_size, rises_from, elements_at, end_at}
use Rattle.dg_columns.specs.Fields.{next_element_at}
use Rattle.dg_columns.specs.ReadFits.{DeltaFits, DeltasThatAreReadFit}
use Rattle.dg_columns.specs.Ranges.{ElementFits, ElementsFit}
use Rattle.dg_columns.proofs.FieldElements.{bind_ok, passed, ok_is, elements_step, elements_are, elements_keep}
use Rattle.dg_columns.proofs.Fields.{IsBytes, bytes_from_all, IsBytes-drop, IsBytes-take, field_ok}

pub bound8 : (bs : List ℕ) → IsBytes bs → from_be_bytes w64 bs < 2 ^ 64
bound8 bs h = omega (arith, h 0, h 1, h 2, h 3, h 4, h 5, h 6, h 7)

pub id_bound : (bytes : List ℕ) (at n : ℕ) → IsBytes bytes → eight_bytes any_number bytes at ≡ Ok n → n < 2 ^ 64
id_bound bytes at n fits e =
    let v = from_be_bytes w64 (take 8 (drop at bytes)) in
    let g = field_ok (ltb (length bytes) (at + 8)) true at v n e in
    subst (λ m. m < 2 ^ 64) g.2 (bound8 (take 8 (drop at bytes)) (IsBytes-take 8 (drop at bytes) (IsBytes-drop at bytes fits)))

pub name_bound : (names : ℕ) (bytes : List ℕ) (at n : ℕ) → four_bytes (λ n. nat_lt n names) bytes at ≡ Ok n → n < names
name_bound names bytes at n e =
    let v = from_be_bytes w32 (take 4 (drop at bytes)) in
    let g = field_ok (ltb (length bytes) (at + 4)) (nat_lt v names) at v n e in
    ltb-true n names (ap (λ m. nat_lt m names) (sym g.2) ∙ g.1)

-- an element that stands in its column and fits
abbrev Fit : Column → ℕ → Element → Type 0
Fit col names x = (same_column (column_of x) col ≡ true) × ElementFits names x

value_fits : (col : Column) (make : ℕ → ℕ → ℕ → Element) (names : ℕ) (bytes : List ℕ) (at : ℕ) (x : Element) → ((id key value : ℕ) → id < 2 ^ 64 → key < names → value < names → Fit col names (make id key value))
    → IsBytes bytes → value_element make names bytes at ≡ Ok x → Fit col names x
value_fits col make names bytes at x made fits e =
    let name : ℕ → Bool = λ n. nat_lt n names in
    let a = bind_ok (eight_bytes any_number bytes at) (λ id. and_read (four_bytes name bytes (at + 8)) (λ key. and_read (four_bytes name bytes (at + 12)) (λ value. Ok (make id key value)))) x e in
    let b = bind_ok (four_bytes name bytes (at + 8)) (λ key. and_read (four_bytes name bytes (at + 12)) (λ value. Ok (make a.0 key value))) x a.2 in
    let c = bind_ok (four_bytes name bytes (at + 12)) (λ value. Ok (make a.0 b.0 value)) x b.2 in
    subst (Fit col names) (ok_is (make a.0 b.0 c.0) x c.2)
    (made a.0 b.0 c.0 (id_bound bytes at a.0 fits a.1) (name_bound names bytes (at + 8) b.0 b.1) (name_bound names bytes (at + 12) c.0 c.1))

edge_fits : (names : ℕ) (bytes : List ℕ) (at : ℕ) (x : Element) → IsBytes bytes → edge_fields (λ id src dst d. element.Edge d id src dst) bytes at ≡ Ok x → Fit column.Structure names x
edge_fits names bytes at x fits e =
    let last : ℕ → ℕ → ℕ → ℕ → Result Element ℕ = λ id src dst d. Ok (element.Edge (d == 1) id src dst) in
    let a = bind_ok (eight_bytes any_number bytes at) (λ id. and_read (eight_bytes any_number bytes (at + 8)) (λ src. and_read (eight_bytes any_number bytes (at + 16)) (λ dst. and_read (one_byte (λ n. nat_lt n 2) bytes (at + 24)) (last id src dst)))) x e in
    let b = bind_ok (eight_bytes any_number bytes (at + 8)) (λ src. and_read (eight_bytes any_number bytes (at + 16)) (λ dst. and_read (one_byte (λ n. nat_lt n 2) bytes (at + 24)) (last a.0 src dst))) x a.2 in
    let c = bind_ok (eight_bytes any_number bytes (at + 16)) (λ dst. and_read (one_byte (λ n. nat_lt n 2) bytes (at + 24)) (last a.0 b.0 dst)) x b.2 in
    let d = bind_ok (one_byte (λ n. nat_lt n 2) bytes (at + 24)) (last a.0 b.0 c.0) x c.2 in
    subst (Fit column.Structure names) (ok_is (element.Edge (d.0 == 1) a.0 b.0 c.0) x d.2)
    (refl, (id_bound bytes at a.0 fits a.1, id_bound bytes (at + 8) b.0 fits b.1, id_bound bytes (at + 16) c.0 fits c.1))

element_fits : (col : Column) (names : ℕ) (bytes : List ℕ) (at : ℕ) (x : Element) → IsBytes bytes → element_at col names bytes at ≡ Ok x → Fit col names x
element_fits column.Structure names bytes at x fits e =
    let node : Result Element ℕ = and_read (eight_bytes any_number bytes (at + 1)) (λ id. Ok (element.Node id)) in
    let edge : Result Element ℕ = edge_fields (λ id src dst d. element.Edge d id src dst) bytes (at + 1) in
    let a = bind_ok (one_byte (λ n. nat_le 1 n && nat_le n 2) bytes at) (λ kind. cond (kind == 1) node edge) x e in
    elim (a.0 == 1) as (λ b. cond b node edge ≡ Ok x → Fit column.Structure names x) [
      | true ↦ λ h.
          let i = bind_ok (eight_bytes any_number bytes (at + 1)) (λ id. Ok (element.Node id)) x h in
          subst (Fit column.Structure names) (ok_is (element.Node i.0) x i.2) (refl, id_bound bytes (at + 1) i.0 fits i.1)
      | false ↦ λ h. edge_fits names bytes (at + 1) x fits h
    ] a.2
element_fits column.NodeAttr names bytes at x fits e =
    value_fits column.NodeAttr (λ id key value. element.NodeAttr id key value) names bytes at x (λ id key value a b c. (refl, (a, b, c))) fits e
element_fits column.EdgeAttr names bytes at x fits e =
    value_fits column.EdgeAttr (λ id key value. element.EdgeAttr id key value) names bytes at x (λ id key value a b c. (refl, (a, b, c))) fits e
element_fits column.Transient names bytes at x fits e = absurd cc

pub record Fit_all (col : Column) (names : ℕ) (xs : List Element) : Type 0 where
  pub inside : in_column col xs ≡ xs
  pub fit : ElementsFit names xs

elements_fit : (k : ℕ) (col : Column) (names : ℕ) (bytes : List ℕ) (others : List Element) (at : ℕ) (last : Option Element) (xs : List Element) (n : ℕ) → IsBytes bytes → elements_at k col names bytes others at last ≡ Ok (xs, n) → Fit_all col names xs
elements_fit zero col names bytes others at last xs n fits e =
    subst (Fit_all col names) (elements_are [] xs at n e) (record { inside = refl; fit = tt })
elements_fit (suc k) col names bytes others at last xs n fits e =
    let with_first : Element → Result (List Element × ℕ) ℕ → Result (List Element × ℕ) ℕ = λ x read. and_read read (λ more. Ok (x ∷ more.0, more.1)) in
    let a = bind_ok (next_element_at col names bytes others at last) (λ x. with_first x (elements_at k col names bytes others (at + element_size x) (Some x))) (xs, n) (sym (elements_step col names bytes others k at last) ∙ e) in
    let x = a.0 in
    let b = bind_ok (elements_at k col names bytes others (at + element_size x) (Some x)) (λ more. Ok (x ∷ more.0, more.1)) (xs, n) a.2 in
    let c = bind_ok (element_at col names bytes at) (λ y. cond (rises_from last y && not (has others y)) (Ok y) (Err at)) x a.1 in
    let d = passed (rises_from last c.0 && not (has others c.0)) at c.0 x c.2 in
    let f : Fit col names x = subst (Fit col names) d.1 (element_fits col names bytes at c.0 fits c.1) in
    let rest = elements_fit k col names bytes others (at + element_size x) (Some x) b.0.0 b.0.1 fits b.1 in
    subst (Fit_all col names) (elements_are (x ∷ b.0.0) xs b.0.1 n b.2)
    (record {
      inside = ap (λ t. cond t (x ∷ in_column col b.0.0) (in_column col b.0.0)) f.0 ∙ ap (λ l. x ∷ l) rest.inside;
      fit = (f.1, rest.fit);
    })

changes_fit : (col : Column) (names : ℕ) (bytes : List ℕ) (d : Delta) → AreBytes bytes → changes_in col names bytes ≡ Ok d → DeltaFits col names d
changes_fit col names [] d fits e =
    subst (DeltaFits col names) (ok_is (record { minus = []; plus = [] }) d e)
    (record { delta = record { minus = tt; plus = tt; apart = λ x h. refl }; inside = record { minus_in = refl; plus_in = refl }; minus_fits = tt; plus_fits = tt })
changes_fit col names (b0 ∷ rest) d fits e =
    let bytes : List ℕ = b0 ∷ rest in
    let right : IsBytes bytes = bytes_from_all bytes fits in
    let is_count : ℕ → ℕ → Bool = λ out n. not (out == 0 && n == 0) in
    let made : List Element × ℕ → List Element × ℕ → Delta = λ m p. record { minus = m.0; plus = p.0 } in
    let a = bind_ok (four_bytes any_number bytes 0) (λ out. and_read (elements_at out col names bytes [] 4 None) (λ m. and_read (four_bytes (is_count out) bytes m.1) (λ in_count. and_read (elements_at in_count col names bytes m.0 (m.1 + 4) None) (λ p. end_at (made m p) bytes p.1)))) d e in
    let m = bind_ok (elements_at a.0 col names bytes [] 4 None) (λ m. and_read (four_bytes (is_count a.0) bytes m.1) (λ in_count. and_read (elements_at in_count col names bytes m.0 (m.1 + 4) None) (λ p. end_at (made m p) bytes p.1))) d a.2 in
    let c = bind_ok (four_bytes (is_count a.0) bytes m.0.1) (λ in_count. and_read (elements_at in_count col names bytes m.0.0 (m.0.1 + 4) None) (λ p. end_at (made m.0 p) bytes p.1)) d m.2 in
    let p = bind_ok (elements_at c.0 col names bytes m.0.0 (m.0.1 + 4) None) (λ p. end_at (made m.0 p) bytes p.1) d c.2 in
    let last = passed (length bytes == p.0.1) p.0.1 (made m.0 p.0) d p.2 in
    let out = elements_keep a.0 col names bytes [] 4 None m.0.0 m.0.1 m.1 in
    let into = elements_keep c.0 col names bytes m.0.0 (m.0.1 + 4) None p.0.0 p.0.1 p.1 in
    let out_fit = elements_fit a.0 col names bytes [] 4 None m.0.0 m.0.1 right m.1 in
    let into_fit = elements_fit c.0 col names bytes m.0.0 (m.0.1 + 4) None p.0.0 p.0.1 right p.1 in
    subst (DeltaFits col names) last.1
    (record { delta = record { minus = out.set; plus = into.set; apart = into.apart }; inside = record { minus_in = out_fit.inside; plus_in = into_fit.inside }; minus_fits = out_fit.fit; plus_fits = into_fit.fit })

none_fit : (names : ℕ) (bytes : List ℕ) (d : Delta) → no_changes_in bytes ≡ Ok d → DeltaFits column.Transient names d
none_fit names [] d e =
    subst (DeltaFits column.Transient names) (ok_is (record { minus = []; plus = [] }) d e)
    (record { delta = record { minus = tt; plus = tt; apart = λ x h. refl }; inside = record { minus_in = refl; plus_in = refl }; minus_fits = tt; plus_fits = tt })
none_fit names (b ∷ rest) d e = absurd cc

pub delta_fits : DeltasThatAreReadFit
delta_fits column.Structure names bytes d fits e = changes_fit column.Structure names bytes d fits e
delta_fits column.NodeAttr names bytes d fits e = changes_fit column.NodeAttr names bytes d fits e
delta_fits column.EdgeAttr names bytes d fits e = changes_fit column.EdgeAttr names bytes d fits e
delta_fits column.Transient names bytes d fits e = none_fit names bytes d e

pub all_from_bytes : (bytes : List ℕ) → IsBytes bytes → AreBytes bytes
all_from_bytes bytes h k d lt = subst (λ n. n < 256) (get_or_default bytes k 0 d lt) (h k)
