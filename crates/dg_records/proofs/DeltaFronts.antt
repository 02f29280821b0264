-- A delta's column whose counts do not fit its length is damaged, and its first bytes show it.
use Rattle.std.proofs.Common.{◌≡◌, ◌⊎◌, ⊎_elim, ℕ, zero, suc, ◌+◌, ◌-◌, ◌*◌, ◌<◌, ◌≤◌, Bool, true, false, cond, ltb, List, [], ◌∷◌, length, take, drop, Option, Some, None, Result, Ok, Err, refl, sym, ap, ◌∙◌, arith, inl, inr}
use Rattle.std.specs.Prelude.{◌&&◌, ◌==◌, nat_le, not}
use Rattle.std.specs.Int.{from_be_bytes, w32}
use Rattle.std.proofs.lemmas.Bool.{cases_lt, eq-eqb, eqb-true, le-leb, leb-true, ltb-false, ne_eqb, true≢false}
use Rattle.std.proofs.lemmas.List.{drop-take, length-take, take-take, take_all}
use Rattle.dg_graph.specs.ColumnGrammar.{and_read, any_number, body_at, body_size, changes_in, delta_in, eight_bytes, element_size, elements_at, end_at, events_at, events_in, four_bytes, may_change, no_changes_in, two_bytes}
use Rattle.dg_graph.specs.Composition.{Delta}
use Rattle.dg_graph.specs.declared.element.Column.{Column}
use Rattle.dg_graph.specs.declared.element.Element.{Element}
use Rattle.dg_graph.specs.declared.element.Element.TheVariants as element
use Rattle.dg_graph.specs.declared.event.Body.{Body}
use Rattle.dg_graph.specs.declared.event.Body.TheVariants as body
use Rattle.dg_graph.specs.declared.limits.TheConstants.{TIME_MAX}
use Rattle.dg_graph.specs.declared.placed.Placed.{Placed}
use Rattle.dg_columns.specs.Fields.{next_element_at}
use Rattle.dg_columns.proofs.FieldElements.{bind_ok, done, elements_step, ok_is, passed}
use Rattle.dg_columns.proofs.Fields.{field_ok}
use Rattle.dg_columns.proofs.ReadFitsEvents.{right_is}
use Rattle.dg_records.specs.DeltaFronts.{DeltasAreToldByRead, IsToldByRead, count_at, counts_fit, may_have, may_take, read_of_delta}

-- ---- how many bytes elements and events take

element_short : (x : Element) → (9 ≤ element_size x) × (element_size x ≤ 26)
element_short (element.Node id) = (omega arith, omega arith)
element_short (element.Edge directed id src dst) = (omega arith, omega arith)
element_short (element.NodeAttr id key value) = (omega arith, omega arith)
element_short (element.EdgeAttr id key value) = (omega arith, omega arith)
element_short (element.Message src dst value) = (omega arith, omega arith)

ends_are : (xs ys : List Element) (m n : ℕ) → done {A = List Element × ℕ} (xs, m) ≡ done {A = List Element × ℕ} (ys, n) → m ≡ n
ends_are xs ys m n e = ap (λ (p : List Element × ℕ). p.1) (ok_is {A = List Element × ℕ} (xs, m) (ys, n) e)

elements_span : (k : ℕ) (col : Column) (names : ℕ) (bytes : List ℕ) (others : List Element) (at : ℕ) (last : Option Element) (xs : List Element) (n : ℕ) → elements_at k col names bytes others at last ≡ Ok (xs, n)
    → (at + 9 * k ≤ n) × (n ≤ at + 26 * k)
elements_span zero col names bytes others at last xs n e =
    let same : at ≡ n = ends_are [] xs at n e in
    (omega (arith, same), omega (arith, same))
elements_span (suc k) col names bytes others at last xs n e =
    let with_first : Element → Result (List Element × ℕ) ℕ → Result (List Element × ℕ) ℕ = λ x read. and_read read (λ more. Ok (x ∷ more.0, more.1)) in
    let a = bind_ok (next_element_at col names bytes others at last) (λ x. with_first x (elements_at k col names bytes others (at + element_size x) (Some x))) (xs, n) (sym (elements_step col names bytes others k at last) ∙ e) in
    let x = a.0 in
    let b = bind_ok (elements_at k col names bytes others (at + element_size x) (Some x)) (λ more. Ok (x ∷ more.0, more.1)) (xs, n) a.2 in
    let same : b.0.1 ≡ n = ends_are (x ∷ b.0.0) xs b.0.1 n b.2 in
    let rest = elements_span k col names bytes others (at + element_size x) (Some x) b.0.0 b.0.1 b.1 in
    let size = element_short x in
    (omega (arith, same, rest.0, size.0), omega (arith, same, rest.1, size.1))

body_long : (b : Body) → 9 ≤ body_size b
body_long (body.NodeAdded id) = omega arith
body_long (body.NodeRemoved id) = omega arith
body_long (body.EdgeAdded directed id src dst) = omega arith
body_long (body.EdgeRemoved directed id src dst) = omega arith
body_long (body.NodeAttr key id old new) = omega arith
body_long (body.EdgeAttr key id old new) = omega arith
body_long (body.Message src dst value) = omega arith

events_span : (k : ℕ) (col : Column) (names : ℕ) (bytes : List ℕ) (at low earliest : ℕ) (placed : List Placed) → events_at k col names bytes at low earliest ≡ Ok placed → at + 19 * k ≤ length bytes
events_span zero col names bytes at low earliest placed e =
    let nothing : List Placed = [] in
    let same : length bytes ≡ at = eqb-true (length bytes) at (passed (length bytes == at) at nothing placed e).0 in
    omega (arith, same)
events_span (suc k) col names bytes at low earliest placed e =
    let is_low : ℕ → Bool = λ n. nat_le low n in
    let is_time : ℕ → Bool = λ n. nat_le earliest n && nat_le n TIME_MAX in
    let make : ℕ → ℕ → Body → List Placed → Result (List Placed) ℕ = λ position time what events. Ok (record { at = position; event = record { time = time; body = what } } ∷ events) in
    let rest : ℕ → ℕ → Body → Result (List Placed) ℕ = λ position time what. events_at k col names bytes (at + 10 + body_size what) (position + 1) time in
    let a = bind_ok (two_bytes is_low bytes at) (λ position. and_read (eight_bytes is_time bytes (at + 2)) (λ time. and_read (body_at col names bytes (at + 10)) (λ what. and_read (rest position time what) (make position time what)))) placed e in
    let b = bind_ok (eight_bytes is_time bytes (at + 2)) (λ time. and_read (body_at col names bytes (at + 10)) (λ what. and_read (rest a.0 time what) (make a.0 time what))) placed a.2 in
    let c = bind_ok (body_at col names bytes (at + 10)) (λ what. and_read (rest a.0 b.0 what) (make a.0 b.0 what)) placed b.2 in
    let d = bind_ok (rest a.0 b.0 c.0) (make a.0 b.0 c.0) placed c.2 in
    let size = body_long c.0 in
    omega (arith, size, events_span k col names bytes (at + 10 + body_size c.0) (a.0 + 1) b.0 d.0 d.1)

-- ---- the counts of what can be decoded

-- the number that was read is that of the four bytes, and these are there
number_is : (right : ℕ → Bool) (bytes : List ℕ) (at n : ℕ) → four_bytes right bytes at ≡ Ok n → (count_at at bytes ≡ n) × (at + 4 ≤ length bytes)
number_is right bytes at n e =
    let f = field_ok (ltb (length bytes) (at + 4)) (right (count_at at bytes)) at (count_at at bytes) n e in
    (f.2, ltb-false (length bytes) (at + 4) f.0)

-- The counts fit the length. Where the first is 0, the second is not.
abbrev Counted : List ℕ → Type 0
Counted bytes =
    ((0 < count_at 0 bytes) × (8 + 9 * count_at 0 bytes ≤ length bytes))
    ⊎ ((count_at 0 bytes ≡ 0) × (0 < count_at 4 bytes) × (8 + 9 * count_at 4 bytes ≤ length bytes) × (length bytes ≤ 8 + 26 * count_at 4 bytes))

some_in : (out n : ℕ) → out ≡ 0 → not (out == 0 && n == 0) ≡ true → 0 < n
some_in out zero none e = absurd (true≢false (sym e ∙ (λ i. not (none i == 0 && true))))
some_in out (suc n) none e = omega arith

changes_counted : (col : Column) (names : ℕ) (bytes : List ℕ) (d : Delta) → changes_in col names bytes ≡ Ok d → 0 < length bytes → Counted bytes
changes_counted col names [] d e some = absurd (omega arith)
changes_counted col names (b ∷ bytes) d e some =
    let whole : List ℕ = b ∷ bytes in
    let right : ℕ → ℕ → Bool = λ out n. not (out == 0 && n == 0) in
    let made : List Element × ℕ → List Element × ℕ → Result Delta ℕ = λ minus plus. end_at (record { minus = minus.0; plus = plus.0 }) whole plus.1 in
    let ins : ℕ → List Element × ℕ → Result Delta ℕ = λ n minus. and_read (elements_at n col names whole minus.0 (minus.1 + 4) None) (made minus) in
    let p = bind_ok (four_bytes any_number whole 0) (λ out. and_read (elements_at out col names whole [] 4 None) (λ minus. and_read (four_bytes (right out) whole minus.1) (λ n. ins n minus))) d e in
    let out : ℕ = p.0 in
    let q = bind_ok (elements_at out col names whole [] 4 None) (λ minus. and_read (four_bytes (right out) whole minus.1) (λ n. ins n minus)) d p.2 in
    let minus = q.0 in
    let r = bind_ok (four_bytes (right out) whole minus.1) (λ n. ins n minus) d q.2 in
    let n : ℕ = r.0 in
    let s = bind_ok (elements_at n col names whole minus.0 (minus.1 + 4) None) (made minus) d r.2 in
    let first = number_is any_number whole 0 out p.1 in
    let second = number_is (right out) whole minus.1 n r.1 in
    let outs = elements_span out col names whole [] 4 None minus.0 minus.1 q.1 in
    let puts = elements_span n col names whole minus.0 (minus.1 + 4) None s.0.0 s.0.1 s.1 in
    let end : length whole ≡ s.0.1 = eqb-true (length whole) s.0.1 (passed (length whole == s.0.1) s.0.1 (record { minus = minus.0; plus = s.0.0 }) d s.2).0 in
    elim (cases_lt 0 out) [
      | inl lt ↦ inl (omega (arith, first.0, lt), omega (arith, first.0, outs.0, second.1))
      | inr none ↦
          let zero_out : out ≡ 0 = omega (arith, none) in
          let at : minus.1 ≡ 4 = omega (arith, outs.0, outs.1, zero_out) in
          let count : count_at 4 whole ≡ n = ap (λ m. count_at m whole) (sym at) ∙ second.0 in
          let more : 0 < n = some_in out n zero_out (right_is w32 4 (right out) whole minus.1 n r.1) in
          inr (first.0 ∙ zero_out, omega (arith, count, more), omega (arith, count, at, puts.0, end), omega (arith, count, at, puts.1, end))
    ]

delta_counted : (col : Column) (names : ℕ) (bytes : List ℕ) (d : Delta) → delta_in col names bytes ≡ Ok d → 0 < length bytes → Counted bytes
delta_counted col names bytes d e some = by (may_change col) bytes e some
  where
    by : (b : Bool) (bytes : List ℕ) → cond b (changes_in col names bytes) (no_changes_in bytes) ≡ Ok d → 0 < length bytes → Counted bytes
    by true bytes e some = changes_counted col names bytes d e some
    by false [] e some = absurd (omega arith)
    by false (b ∷ bytes) e some = absurd cc

events_counted : (col : Column) (names : ℕ) (bytes : List ℕ) (placed : List Placed) → events_in col names bytes ≡ Ok placed → 0 < length bytes → Counted bytes
events_counted col names [] placed e some = absurd (omega arith)
events_counted col names (b ∷ bytes) placed e some =
    let p = bind_ok (four_bytes (λ n. nat_le 1 n) (b ∷ bytes) 0) (λ count. events_at count col names (b ∷ bytes) 4 0 0) placed e in
    let first = number_is (λ n. nat_le 1 n) (b ∷ bytes) 0 p.0 p.1 in
    let more : 1 ≤ p.0 = leb-true 1 p.0 (right_is w32 4 (λ n. nat_le 1 n) (b ∷ bytes) 0 p.0 p.1) in
    inl (omega (arith, first.0, more), omega (arith, first.0, more, events_span p.0 col names (b ∷ bytes) 4 0 0 placed p.2))

-- ---- the first bytes

-- they have the same counts
front_count : (whole : List ℕ) → (count_at 0 (take 8 whole) ≡ count_at 0 whole) × (count_at 4 (take 8 whole) ≡ count_at 4 whole)
front_count whole = (
  ap (from_be_bytes w32) (take-take 4 8 whole (omega arith)),
  ap (from_be_bytes w32) (ap (take 4) (drop-take 4 4 whole) ∙ take-take 4 4 (drop 4 whole) (omega arith)),
)

counted_fits : (whole : List ℕ) → Counted whole → counts_fit (take 8 whole) (length whole) ≡ true
counted_fits whole counted =
    let same = front_count whole in
    (λ i. may_have (same.0 i) (same.1 i) (length whole))
    ∙ ⊎_elim
    (λ some.
    ap (λ b. cond b (may_take (count_at 4 whole) (length whole - 8)) (nat_le (8 + 9 * count_at 0 whole) (length whole))) (ne_eqb (count_at 0 whole) 0 (λ none. omega (arith, none, some.0)))
    ∙ le-leb (8 + 9 * count_at 0 whole) (length whole) some.1)
    (λ none.
    ap (λ b. cond b (may_take (count_at 4 whole) (length whole - 8)) (nat_le (8 + 9 * count_at 0 whole) (length whole))) (eq-eqb (count_at 0 whole) 0 none.0)
    ∙ (λ i. le-leb (9 * count_at 4 whole) (length whole - 8) (omega (arith, none.2)) i && le-leb (length whole - 8) (26 * count_at 4 whole) (omega (arith, none.2, none.3)) i)
    ∙ refl)
    counted

not_so_short : (bytes : List ℕ) → length bytes ≡ 8 → Counted bytes → ⊥
not_so_short bytes short counted = ⊎_elim (λ some. omega (arith, short, some.0, some.1)) (λ none. omega (arith, short, none.1, none.2)) counted

-- what does not decode is damaged
none_decoded : {A : Type 0} (read : Result A ℕ) → ((x : A) → read ≡ Ok x → ⊥) → (n : ℕ) × (read ≡ Err n)
none_decoded (Ok x) h = absurd (h x refl)
none_decoded (Err n) h = (n, refl)

all_told : {A : Type 0} (decoded : List ℕ → Result A ℕ) (read whole : List ℕ) → read ≡ whole → IsToldByRead decoded read whole
all_told decoded read whole is = record { all = λ x e. is; damaged = λ m e. (m, ap decoded (sym is) ∙ e) }

told_by_counts : {A : Type 0} (decoded : List ℕ → Result A ℕ) → ((bytes : List ℕ) (x : A) → decoded bytes ≡ Ok x → 0 < length bytes → Counted bytes) → (whole : List ℕ) → IsToldByRead decoded (read_of_delta whole) whole
told_by_counts decoded counted whole = by (counts_fit (take 8 whole) (length whole)) refl
  where
    front : List ℕ
    front = take 8 whole

    long : 8 < length whole → counts_fit front (length whole) ≡ false → IsToldByRead decoded front whole
    long more unfit =
        let short : length front ≡ 8 = omega (arith, more, length-take 8 whole) in
        record {
          all = λ x e. absurd (not_so_short front short (counted front x e (omega (arith, short))));
          damaged = λ m e. none_decoded (decoded whole) (λ x e. true≢false (sym (counted_fits whole (counted whole x e (omega (arith, more)))) ∙ unfit));
        }

    by : (b : Bool) → counts_fit front (length whole) ≡ b → IsToldByRead decoded (cond b whole front) whole
    by true fit = all_told decoded whole whole refl
    by false unfit =
        elim (cases_lt 8 (length whole)) [
          | inl more ↦ long more unfit
          | inr few ↦ all_told decoded front whole (take_all 8 whole few)
        ]

pub deltas_are_told : DeltasAreToldByRead
deltas_are_told col names whole = told_by_counts (delta_in col names) (delta_counted col names) whole

pub events_are_told : (col : Column) (names : ℕ) (whole : List ℕ) → IsToldByRead (events_in col names) (read_of_delta whole) whole
events_are_told col names whole = told_by_counts (events_in col names) (events_counted col names) whole
