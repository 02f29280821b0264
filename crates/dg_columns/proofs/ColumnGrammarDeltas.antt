-- A delta whose two sets are read each by itself, and then compared.
use Rattle.std.proofs.Common.{◌≡◌, ℕ, zero, suc, ◌+◌, Bool, true, false, cond, List, [], ◌∷◌, length, Option, Some, None, Result, Ok, Err, refl, sym, ap, ◌∙◌}
use Rattle.std.specs.Prelude.{not, ◌&&◌, ◌==◌}
use Rattle.std.proofs.lemmas.Bool.{true≢false, eq-eqb, or_right}
use Rattle.dg_graph.specs.declared.element.Column.{Column}
use Rattle.dg_graph.specs.declared.element.Element.{Element}
use Rattle.dg_graph.specs.Composition.{Delta}
use Rattle.dg_graph.specs.Elements.{has, same}
use Rattle.dg_graph.specs.ColumnGrammar.{and_read, any_number, four_bytes, element_at, element_size, rises_from, elements_at, end_at, changes_in}
use Rattle.dg_graph.proofs.Sets.{has_first}
use Rattle.dg_set.specs.Apart.{AreApart}
use Rattle.dg_columns.specs.Fields.{next_element_at}
use Rattle.dg_columns.proofs.FieldElements.{elements_step, elements_are, bind_ok, passed, both, done}
use Rattle.dg_columns.proofs.ColumnLawEvents.{and_then}

-- an element of a set that shares none with the others is in none of them
absent_from : (others xs : List Element) (x : Element) → AreApart others xs → has xs x ≡ true → has others x ≡ false
absent_from others xs x apart h =
    elim (has others x) as (λ b. has others x ≡ b → b ≡ false) [
      | true ↦ λ e. absurd (true≢false (sym h ∙ apart x e))
      | false ↦ λ e. refl
    ] refl

tail_apart : (others : List Element) (x : Element) (xs : List Element) → AreApart others (x ∷ xs) → AreApart others xs
tail_apart others x xs apart q h =
    elim (has xs q) as (λ b. has xs q ≡ b → b ≡ false) [
      | true ↦ λ e. absurd (true≢false (sym (or_right (same q x) (has xs q) e) ∙ apart q h))
      | false ↦ λ e. refl
    ] refl

-- what was read beside no others is read the same beside those with which it shares no element
pub read_beside : (k : ℕ) (col : Column) (names : ℕ) (bytes : List ℕ) (others : List Element) (at : ℕ) (last : Option Element) (xs : List Element) (n : ℕ) → elements_at k col names bytes [] at last ≡ Ok (xs, n) → AreApart others xs → elements_at k col names bytes others at last ≡ Ok (xs, n)
read_beside zero col names bytes others at last xs n e apart = e
read_beside (suc k) col names bytes others at last xs n e apart =
    let with_first : Element → Result (List Element × ℕ) ℕ → Result (List Element × ℕ) ℕ = λ x read. and_read read (λ more. Ok (x ∷ more.0, more.1)) in
    let a = bind_ok (next_element_at col names bytes [] at last) (λ x. with_first x (elements_at k col names bytes [] (at + element_size x) (Some x))) (xs, n) (sym (elements_step col names bytes [] k at last) ∙ e) in
    let x = a.0 in
    let b = bind_ok (elements_at k col names bytes [] (at + element_size x) (Some x)) (λ more. Ok (x ∷ more.0, more.1)) (xs, n) a.2 in
    let c = bind_ok (element_at col names bytes at) (λ y. cond (rises_from last y && not (has [] y)) (Ok y) (Err at)) x a.1 in
    let d = passed (rises_from last c.0 && not (has [] c.0)) at c.0 x c.2 in
    let rises = both (rises_from last x) (has [] x) (ap (λ y. rises_from last y && not (has [] y)) (sym d.1) ∙ d.0) in
    let whole : AreApart others (x ∷ b.0.0) = λ q h. ap (λ l. has l q) (elements_are (x ∷ b.0.0) xs b.0.1 n b.2) ∙ apart q h in
    let absent = absent_from others (x ∷ b.0.0) x whole (has_first x b.0.0) in
    let rest = read_beside k col names bytes others (at + element_size x) (Some x) b.0.0 b.0.1 b.1 (tail_apart others x b.0.0 whole) in
    let more = with_first x (elements_at k col names bytes others (at + element_size x) (Some x)) in
    and_then (element_at col names bytes at) (λ y. cond (rises_from last y && not (has others y)) (with_first y (elements_at k col names bytes others (at + element_size y) (Some y))) (Err at)) x (xs, n) (c.1 ∙ ap done d.1)
    ((λ i. cond (rises.0 i && not (absent i)) more (Err at))
    ∙ and_then (elements_at k col names bytes others (at + element_size x) (Some x)) (λ m. Ok (x ∷ m.0, m.1)) b.0 (xs, n) rest b.2)

-- an element that is read beside no others is read beside those of which it is none
pub next_beside : (col : Column) (names : ℕ) (bytes : List ℕ) (others : List Element) (at : ℕ) (last : Option Element) (x : Element) → next_element_at col names bytes [] at last ≡ Ok x → has others x ≡ false → next_element_at col names bytes others at last ≡ Ok x
next_beside col names bytes others at last x e absent =
    let c = bind_ok (element_at col names bytes at) (λ y. cond (rises_from last y && not (has [] y)) (Ok y) (Err at)) x e in
    let d = passed (rises_from last c.0 && not (has [] c.0)) at c.0 x c.2 in
    let rises = both (rises_from last x) (has [] x) (ap (λ y. rises_from last y && not (has [] y)) (sym d.1) ∙ d.0) in
    and_then (element_at col names bytes at) (λ y. cond (rises_from last y && not (has others y)) (Ok y) (Err at)) x x (c.1 ∙ ap done d.1)
    (λ i. cond (rises.0 i && not (absent i)) (done x) (Err at))

-- the delta of what is taken out, and of what is put in and not among that, which fill the bytes
pub changes_from : (col : Column) (names : ℕ) (bytes : List ℕ) (out into m n : ℕ) (minus plus : List Element) → four_bytes any_number bytes 0 ≡ Ok out → elements_at out col names bytes [] 4 None ≡ Ok (minus, m) → four_bytes (λ k. not (out == 0 && k == 0)) bytes m ≡ Ok into → elements_at into col names bytes minus (m + 4) None ≡ Ok (plus, n) → n ≡ length bytes
    → changes_in col names bytes ≡ Ok (record { minus = minus; plus = plus })
changes_from col names [] out into m n minus plus e f g h whole = absurd cc
changes_from col names (b ∷ rest) out into m n minus plus e f g h whole =
    let bytes : List ℕ = b ∷ rest in
    let is_count : ℕ → ℕ → Bool = λ out n. not (out == 0 && n == 0) in
    let made : List Element × ℕ → List Element × ℕ → Delta = λ m p. record { minus = m.0; plus = p.0 } in
    let d : Delta = record { minus = minus; plus = plus } in
    let last : end_at d bytes n ≡ Ok d = ap (λ t. cond t (Ok d) (Err n)) (eq-eqb (length bytes) n (sym whole)) in
    let whole_minus : List Element × ℕ = (minus, m) in
    let whole_plus : List Element × ℕ = (plus, n) in
    and_then (four_bytes any_number bytes 0) (λ out. and_read (elements_at out col names bytes [] 4 None) (λ m. and_read (four_bytes (is_count out) bytes m.1) (λ in_count. and_read (elements_at in_count col names bytes m.0 (m.1 + 4) None) (λ p. end_at (made m p) bytes p.1)))) out d e
    (and_then (elements_at out col names bytes [] 4 None) (λ m. and_read (four_bytes (is_count out) bytes m.1) (λ in_count. and_read (elements_at in_count col names bytes m.0 (m.1 + 4) None) (λ p. end_at (made m p) bytes p.1))) whole_minus d f
    (and_then (four_bytes (is_count out) bytes m) (λ in_count. and_read (elements_at in_count col names bytes minus (m + 4) None) (λ p. end_at (made whole_minus p) bytes p.1)) into d g
    (and_then (elements_at into col names bytes minus (m + 4) None) (λ p. end_at (made whole_minus p) bytes p.1) whole_plus d h last)))

-- a delta of two sets that are read each by itself, which fill the bytes
pub delta_from : (col : Column) (names : ℕ) (bytes : List ℕ) (out into m n : ℕ) (minus plus : List Element) → four_bytes any_number bytes 0 ≡ Ok out → elements_at out col names bytes [] 4 None ≡ Ok (minus, m) → four_bytes (λ k. not (out == 0 && k == 0)) bytes m ≡ Ok into → elements_at into col names bytes [] (m + 4) None ≡ Ok (plus, n) → AreApart minus plus → n ≡ length bytes
    → changes_in col names bytes ≡ Ok (record { minus = minus; plus = plus })
delta_from col names bytes out into m n minus plus e f g h apart whole =
    changes_from col names bytes out into m n minus plus e f g (read_beside into col names bytes minus (m + 4) None plus n h apart) whole
