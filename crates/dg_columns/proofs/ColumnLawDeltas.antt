-- The column of a delta is read back.
use Rattle.std.proofs.Common.{◌≡◌, ℕ, suc, ◌+◌, ◌^◌, ◌<◌, ◌≤◌, Bool, true, false, cond, List, [], ◌∷◌, ◌++◌, length, drop, filter, Option, Some, None, Result, Ok, Err, refl, sym, ap, subst, ◌∙◌, append_assoc, IsTrue, arith}
use Rattle.std.specs.Prelude.{◌&&◌, ◌||◌, ◌==◌, not, nat_lt, nat_le, IfSome}
use Rattle.std.specs.List.{flat_map}
use Rattle.std.proofs.lemmas.Bool.{and_from, lt-ltb, eq-eqb, ne_eqb, true≢false, false≢true}
use Rattle.std.proofs.lemmas.List.{length-drop, append-nil}
use Rattle.dg_graph.specs.declared.element.Column.{Column}
use Rattle.dg_graph.specs.declared.element.Element.{Element}
use Rattle.dg_graph.specs.declared.element.Element.TheVariants as element
use Rattle.dg_graph.specs.declared.element.Column.TheVariants as column
use Rattle.dg_graph.specs.Columns.{delta_column, four, eight, element_bytes, same_column, in_column, part_bytes, parts_bytes}
use Rattle.dg_graph.specs.Composition.{Delta, IsDelta}
use Rattle.dg_graph.specs.Elements.{bit, column_of, before, has, same, IsSet, IsBelowFirst}
use Rattle.dg_graph.specs.ColumnGrammar.{may_change, changes_in, no_changes_in, and_read, any_number, one_byte, four_bytes, eight_bytes, value_element, element_at, element_size, rises_from, elements_at, end_at}
use Rattle.dg_graph.proofs.Sets.{IsBelowFirst-trans, has-filter, has_first}
use Rattle.dg_columns.specs.Fields.{next_element_at}
use Rattle.dg_columns.specs.ColumnLaws.{DeltasAreReadBack}
use Rattle.dg_columns.specs.Ranges.{ElementFits, ElementsFit}
use Rattle.dg_columns.proofs.FieldElements.{elements_step}
use Rattle.dg_columns.proofs.ColumnLawEvents.{Found, byte_again, four_again, eight_again, edge_again, one_read, and_then, same_column_is}

-- ---- an element

attr_again : (make : ℕ → ℕ → ℕ → Element) (names : ℕ) (bytes : List ℕ) (at id key value : ℕ) (rest : List ℕ) → names < 2 ^ 32 → id < 2 ^ 64 → key < names → value < names → drop at bytes ≡ (eight id ++ (four key ++ four value)) ++ rest → Found Element (value_element make names bytes at) (make id key value) bytes (at + 16) rest
attr_again make names bytes at id key value rest few id_fits key_fits value_fits e =
    let is_name : ℕ → Bool = λ n. nat_lt n names in
    let e1 = e ∙ append_assoc (eight id) (four key ++ four value) rest in
    let f1 = eight_again any_number bytes at id (at + 8) ((four key ++ four value) ++ rest) id_fits refl refl e1 in
    let e2 = f1.1 ∙ append_assoc (four key) (four value) rest in
    let f2 = four_again is_name bytes (at + 8) key (at + 12) (four value ++ rest) (omega arith) (omega arith) (lt-ltb key names key_fits) e2 in
    let f3 = four_again is_name bytes (at + 12) value (at + 16) rest (omega arith) (omega arith) (lt-ltb value names value_fits) f2.1 in
    (λ i. and_read (f1.0 i) (λ id. and_read (f2.0 i) (λ key. and_read (f3.0 i) (λ value. Ok (make id key value)))), f3.1, f3.2)

element_again : (names : ℕ) (bytes : List ℕ) (at : ℕ) (x : Element) (rest : List ℕ) → may_change (column_of x) ≡ true → names < 2 ^ 32 → ElementFits names x → drop at bytes ≡ element_bytes x ++ rest → Found Element (element_at (column_of x) names bytes at) x bytes (at + element_size x) rest
element_again names bytes at (element.Node id) rest may few fits e =
    let f1 = byte_again (λ n. nat_le 1 n && nat_le n 2) bytes at 1 (at + 1) (eight id ++ rest) (omega arith) refl refl e in
    let f2 = eight_again any_number bytes (at + 1) id (at + 9) rest fits (omega arith) refl f1.1 in
    (and_then (one_byte (λ n. nat_le 1 n && nat_le n 2) bytes at) _ 1 (element.Node id) f1.0 (one_read (λ id. element.Node id) (eight_bytes any_number bytes (at + 1)) id f2.0), f2.1, f2.2)
element_again names bytes at (element.Edge d id src dst) rest may few fits e =
    let f1 = byte_again (λ n. nat_le 1 n && nat_le n 2) bytes at 2 (at + 1) ((eight id ++ (eight src ++ (eight dst ++ bit d ∷ []))) ++ rest) (omega arith) refl refl e in
    let f2 = edge_again (λ id src dst d. element.Edge d id src dst) bytes (at + 1) id src dst d (at + 26) rest fits (omega arith) f1.1 in
    (and_then (one_byte (λ n. nat_le 1 n && nat_le n 2) bytes at) _ 2 (element.Edge d id src dst) f1.0 f2.0, f2.1, f2.2)
element_again names bytes at (element.NodeAttr id key value) rest may few fits e =
    attr_again (λ id key value. element.NodeAttr id key value) names bytes at id key value rest few fits.0 fits.1 fits.2 e
element_again names bytes at (element.EdgeAttr id key value) rest may few fits e =
    attr_again (λ id key value. element.EdgeAttr id key value) names bytes at id key value rest few fits.0 fits.1 fits.2 e
element_again names bytes at (element.Message src dst value) rest may few fits e = absurd (false≢true may)

-- ---- a set

-- an element of the column that may stand behind the last one
record NextFits (col : Column) (names : ℕ) (others : List Element) (last : Option Element) (x : Element) : Type 0 where
  rises : rises_from last x ≡ true
  absent : has others x ≡ false
  fits : ElementFits names x
  column : column_of x ≡ col
  may : may_change col ≡ true

abbrev AllFit : Column → ℕ → List Element → Option Element → List Element → Type 0
AllFit col names others last [] = Unit {0}
AllFit col names others last (x ∷ xs) = NextFits col names others last x × AllFit col names others (Some x) xs

next_again : (col : Column) (names : ℕ) (bytes : List ℕ) (others : List Element) (at : ℕ) (last : Option Element) (x : Element) (rest : List ℕ) → names < 2 ^ 32 → NextFits col names others last x → drop at bytes ≡ element_bytes x ++ rest → Found Element (next_element_at col names bytes others at last) x bytes (at + element_size x) rest
next_again col names bytes others at last x rest few fits e =
    let f = element_again names bytes at x rest (ap may_change fits.column ∙ fits.may) few fits.fits e in
    let read : element_at col names bytes at ≡ Ok x = subst (λ col. element_at col names bytes at ≡ Ok x) fits.column f.0 in
    let right : (rises_from last x && not (has others x)) ≡ true = and_from (rises_from last x) (not (has others x)) fits.rises (ap not fits.absent) in
    (and_then (element_at col names bytes at) (λ y. cond (rises_from last y && not (has others y)) (Ok y) (Err at)) x x read (ap (λ b. cond b (Ok x) (Err at)) right), f.1, f.2)

-- a reading of a set, and the offset behind it
record SetFound (read : Result (List Element × ℕ) ℕ) (xs : List Element) (bytes rest : List ℕ) : Type 0 where
  next : ℕ
  found : read ≡ Ok (xs, next)
  behind : drop next bytes ≡ rest
  within : next ≤ length bytes

set_again : (xs : List Element) (col : Column) (names : ℕ) (bytes : List ℕ) (others : List Element) (at : ℕ) (last : Option Element) (rest : List ℕ) → names < 2 ^ 32 → at ≤ length bytes → AllFit col names others last xs → drop at bytes ≡ flat_map element_bytes xs ++ rest
    → SetFound (elements_at (length xs) col names bytes others at last) xs bytes rest
set_again [] col names bytes others at last rest few within fits e =
    record { next = at; found = refl; behind = e; within = within }
set_again (x ∷ xs) col names bytes others at last rest few within fits e =
    let first = next_again col names bytes others at last x (flat_map element_bytes xs ++ rest) few fits.0 (e ∙ append_assoc (element_bytes x) (flat_map element_bytes xs) rest) in
    let more = set_again xs col names bytes others (at + element_size x) (Some x) rest few first.2 fits.1 first.1 in
    let after : Element → Result (List Element × ℕ) ℕ = λ y. elements_at (length xs) col names bytes others (at + element_size y) (Some y) in
    let whole : List Element × ℕ = (x ∷ xs, more.next) in
    record {
      next = more.next;
      found =
          elements_step col names bytes others (length xs) at last
          ∙ and_then (next_element_at col names bytes others at last) (λ y. and_read (after y) (λ more. Ok (y ∷ more.0, more.1))) x whole first.0
          (ap (λ r. and_read r (λ more. Ok (x ∷ more.0, more.1))) more.found);
      behind = more.behind;
      within = more.within;
    }

or_right : (a b : Bool) → b ≡ true → (a || b) ≡ true
or_right true b e = refl
or_right false b e = e

-- the elements of a column of a set fit, where none of them is among the others
column_fits : (col : Column) → may_change col ≡ true → (names : ℕ) (others : List Element) (last : Option Element) (set : List Element) → IsSet set → IfSome last (λ l. IsBelowFirst l set) → ((q : Element) → has set q ≡ true → has others q ≡ false) → ElementsFit names set → AllFit col names others last (in_column col set)
column_fits col may names others last [] s below apart fits = tt
column_fits col may names others last (x ∷ set) s below apart fits =
    let absent = apart x (has_first x set) in
    let apart' : (q : Element) → has set q ≡ true → has others q ≡ false = λ q h. apart q (or_right (same q x) (has set q) h) in
    let rises = elim last as (λ l. IfSome l (λ y. IsTrue (before y x)) → rises_from l x ≡ true) [ None ↦ λ h. refl | Some y ↦ λ h. h ] below in
    let below' = elim last as (λ l. IfSome l (λ y. IsTrue (before y x)) → IfSome l (λ y. IsBelowFirst y set)) [ None ↦ λ h. tt | Some y ↦ λ h. IsBelowFirst-trans y x set h s.0 ] below in
    let taken = column_fits col may names others (Some x) set s.1 s.0 apart' fits.1 in
    let left = column_fits col may names others last set s.1 below' apart' fits.1 in
    elim (same_column (column_of x) col) as (λ b. same_column (column_of x) col ≡ b → AllFit col names others last (cond b (x ∷ in_column col set) (in_column col set))) [
      | true ↦ λ e. (record { rises = rises; absent = absent; fits = fits.0; may = may; column = same_column_is (column_of x) col e }, taken)
      | false ↦ λ e. left
    ] refl

few_in_column : (col : Column) (set : List Element) → length (in_column col set) ≤ length set
few_in_column col [] = omega arith
few_in_column col (x ∷ set) =
    let rest = few_in_column col set in
    elim (same_column (column_of x) col) as (λ b. length (cond b (x ∷ in_column col set) (in_column col set)) ≤ suc (length set)) [ true ↦ omega arith | false ↦ omega arith ]

-- ---- a delta

parts_again : (col : Column) (names : ℕ) (minus plus : List Element) → names < 2 ^ 32 → length minus < 2 ^ 32 → length plus < 2 ^ 32 → not (length minus == 0 && length plus == 0) ≡ true → AllFit col names [] None minus → AllFit col names minus None plus
    → changes_in col names (part_bytes minus ++ part_bytes plus) ≡ Ok (record { minus = minus; plus = plus })
parts_again col names minus plus few few_minus few_plus some minus_fits plus_fits =
    let bytes : List ℕ = part_bytes minus ++ part_bytes plus in
    let is_count : ℕ → ℕ → Bool = λ out n. not (out == 0 && n == 0) in
    let made : List Element × ℕ → List Element × ℕ → Delta = λ m p. record { minus = m.0; plus = p.0 } in
    let d : Delta = record { minus = minus; plus = plus } in
    let f1 = four_again any_number bytes 0 (length minus) 4 (flat_map element_bytes minus ++ part_bytes plus) few_minus refl refl (append_assoc (four (length minus)) (flat_map element_bytes minus) (part_bytes plus)) in
    let g1 = set_again minus col names bytes [] 4 None (part_bytes plus) few f1.2 minus_fits f1.1 in
    let f2 = four_again (is_count (length minus)) bytes g1.next (length plus) (g1.next + 4) (flat_map element_bytes plus) few_plus refl some g1.behind in
    let g2 = set_again plus col names bytes minus (g1.next + 4) None [] few f2.2 plus_fits (f2.1 ∙ sym (append-nil (flat_map element_bytes plus))) in
    let ended : length bytes ≡ g2.next = omega (arith, g2.within, length-drop g2.next bytes, ap length g2.behind) in
    let last : end_at d bytes g2.next ≡ Ok d = ap (λ b. cond b (Ok d) (Err g2.next)) (eq-eqb (length bytes) g2.next ended) in
    let whole_minus : List Element × ℕ = (minus, g1.next) in
    let whole_plus : List Element × ℕ = (plus, g2.next) in
    and_then (four_bytes any_number bytes 0) (λ out. and_read (elements_at out col names bytes [] 4 None) (λ m. and_read (four_bytes (is_count out) bytes m.1) (λ in_count. and_read (elements_at in_count col names bytes m.0 (m.1 + 4) None) (λ p. end_at (made m p) bytes p.1)))) (length minus) d f1.0
    (and_then (elements_at (length minus) col names bytes [] 4 None) (λ m. and_read (four_bytes (is_count (length minus)) bytes m.1) (λ in_count. and_read (elements_at in_count col names bytes m.0 (m.1 + 4) None) (λ p. end_at (made m p) bytes p.1))) whole_minus d g1.found
    (and_then (four_bytes (is_count (length minus)) bytes g1.next) (λ in_count. and_read (elements_at in_count col names bytes minus (g1.next + 4) None) (λ p. end_at (made whole_minus p) bytes p.1)) (length plus) d f2.0
    (and_then (elements_at (length plus) col names bytes minus (g1.next + 4) None) (λ p. end_at (made whole_minus p) bytes p.1) whole_plus d g2.found last)))

not_empty : (x : Element) (set : List Element) → (length (x ∷ set) == 0) ≡ false
not_empty x set = ne_eqb (length (x ∷ set)) 0 (λ e. omega arith)

sets_again : (col : Column) (names : ℕ) (minus plus : List Element) → names < 2 ^ 32 → length minus < 2 ^ 32 → length plus < 2 ^ 32 → AllFit col names [] None minus → AllFit col names minus None plus
    → changes_in col names (parts_bytes minus plus) ≡ Ok (record { minus = minus; plus = plus })
sets_again col names [] [] few few_minus few_plus minus_fits plus_fits = refl
sets_again col names [] (y ∷ plus) few few_minus few_plus minus_fits plus_fits =
    parts_again col names [] (y ∷ plus) few few_minus few_plus (ap not (not_empty y plus)) minus_fits plus_fits
sets_again col names (x ∷ minus) plus few few_minus few_plus minus_fits plus_fits =
    parts_again col names (x ∷ minus) plus few few_minus few_plus (ap (λ b. not (b && length plus == 0)) (not_empty x minus)) minus_fits plus_fits

-- an element of plus is in no part of minus
absent_from : (d : Delta) (p : Element → Bool) → IsDelta d → (q : Element) → has d.plus q ≡ true → has (filter p d.minus) q ≡ false
absent_from d p is q h =
    let out : has d.minus q ≡ false = elim (has d.minus q) as (λ b. has d.minus q ≡ b → b ≡ false) [ true ↦ λ e. absurd (true≢false (sym h ∙ is.apart q e)) | false ↦ λ e. refl ] refl in
    has-filter p d.minus q ∙ ap (λ b. p q && b) out ∙ elim (p q) as (λ b. (b && false) ≡ false) [ true ↦ refl | false ↦ refl ]

changes_back : (col : Column) → may_change col ≡ true → (names : ℕ) (d : Delta) → names < 2 ^ 32 → IsDelta d → length d.minus < 2 ^ 32 → length d.plus < 2 ^ 32 → ElementsFit names d.minus → ElementsFit names d.plus
    → changes_in col names (delta_column col d) ≡ Ok (record { minus = in_column col d.minus; plus = in_column col d.plus })
changes_back col may names d few is few_minus few_plus minus_fits plus_fits =
    let out = few_in_column col d.minus in
    let come = few_in_column col d.plus in
    sets_again col names (in_column col d.minus) (in_column col d.plus) few (omega arith) (omega arith)
    (column_fits col may names [] None d.minus is.minus tt (λ q h. refl) minus_fits)
    (column_fits col may names (in_column col d.minus) None d.plus is.plus tt (absent_from d (λ x. same_column (column_of x) col) is) plus_fits)

none_back : (minus plus : List Element) → minus ≡ [] → plus ≡ [] → no_changes_in (parts_bytes minus plus) ≡ Ok (record { minus = minus; plus = plus })
none_back minus plus a b = (λ i. no_changes_in (parts_bytes (a i) (b i))) ∙ (λ i. Ok (record { minus = sym a i; plus = sym b i }))

pub deltas_back : DeltasAreReadBack
deltas_back column.Structure names d few is few_minus few_plus minus_fits plus_fits none = changes_back column.Structure refl names d few is few_minus few_plus minus_fits plus_fits
deltas_back column.NodeAttr names d few is few_minus few_plus minus_fits plus_fits none = changes_back column.NodeAttr refl names d few is few_minus few_plus minus_fits plus_fits
deltas_back column.EdgeAttr names d few is few_minus few_plus minus_fits plus_fits none = changes_back column.EdgeAttr refl names d few is few_minus few_plus minus_fits plus_fits
deltas_back column.Transient names d few is few_minus few_plus minus_fits plus_fits none = none_back (in_column column.Transient d.minus) (in_column column.Transient d.plus) none.0 none.1
