-- The elements of a delta that are passed one after another, of which nothing is kept.
use Rattle.std.proofs.Common.{◌≡◌, ◌⊎◌, inl, inr, true, false, cond, ℕ, suc, ◌+◌, ◌-◌, ◌<◌, ◌≤◌, List, [], ◌∷◌, Option, Some, None, Result, Ok, Err, refl, sym, ap, ◌∙◌, length, arith}
use Rattle.std.specs.Prelude.{not, ◌&&◌, ◌==◌}
use Rattle.std.specs.Result.{result_ok}
use Rattle.dg_graph.specs.declared.element.Column.{Column}
use Rattle.dg_graph.specs.declared.element.Element.{Element}
use Rattle.dg_graph.specs.Composition.{Delta}
use Rattle.dg_graph.specs.ColumnGrammar.{and_read, any_number, four_bytes, element_size, elements_at, may_change, changes_in, no_changes_in, delta_in}
use Rattle.dg_columns.specs.declared.fault.ReadFault.{ReadFault}
use Rattle.dg_columns.specs.ReadOutcome.{IsReadAs}
use Rattle.dg_columns.specs.Fields.{next_element_at}
use Rattle.dg_columns.proofs.FieldElements.{elements_step, elements_are}
use Rattle.dg_columns.proofs.ColumnLawEvents.{and_then}
use Rattle.dg_columns.proofs.ColumnGrammarDeltas.{changes_from}

-- what a call gave that did not fail
pub given : {X Y : Type 0} (view : X → Y) (r : Result X ReadFault) (read : Result Y ℕ) (x : X) → Some x ≡ result_ok r → IsReadAs view r read → read ≡ Ok (view x)
given {X} {Y} view (Ok y) read x e g =
    let is : x ≡ y = cc in
    g ∙ ap (λ (z : X). Ok (view z)) (sym is)
given view (Err f) read x e g = absurd cc

module _ (col : Column) (names : ℕ) (bytes : List ℕ) (others : List Element) where
  -- where the elements end that are read from the offset on, they end too with one more in front of them
  pub one_before : (count i at : ℕ) (last : Option Element) → i < count → (x : Element) (next : ℕ) → next ≡ at + element_size x → next_element_at col names bytes others at last ≡ Ok x
      → (p : List Element × ℕ) → elements_at (count - (i + 1)) col names bytes others next (Some x) ≡ Ok p → elements_at (count - i) col names bytes others at last ≡ Ok (x ∷ p.0, p.1)
  one_before count i at last lt x next is read p e =
      let k : count - i ≡ suc (count - (i + 1)) = omega arith in
      let made : List Element × ℕ = (x ∷ p.0, p.1) in
      let rest = and_then (elements_at (count - (i + 1)) col names bytes others (at + element_size x) (Some x)) (λ more. Ok (x ∷ more.0, more.1)) p made (ap (λ n. elements_at (count - (i + 1)) col names bytes others n (Some x)) (sym is) ∙ e) refl in
      ap (λ n. elements_at n col names bytes others at last) k
      ∙ elements_step col names bytes others (count - (i + 1)) at last
      ∙ and_then (next_element_at col names bytes others at last) (λ y. and_read (elements_at (count - (i + 1)) col names bytes others (at + element_size y) (Some y)) (λ more. Ok (y ∷ more.0, more.1))) x made read rest

-- no elements end where they begin
pub none_left : (count i : ℕ) (col : Column) (names : ℕ) (bytes : List ℕ) (others : List Element) (at : ℕ) (last : Option Element) → count ≤ i → elements_at (count - i) col names bytes others at last ≡ Ok ([], at)
none_left count i col names bytes others at last le =
    let k : count - i ≡ 0 = omega arith in
    ap (λ n. elements_at n col names bytes others at last) k

-- where none are taken out, there are none
pub none_taken : (count : ℕ) (col : Column) (names : ℕ) (bytes : List ℕ) (at : ℕ) (xs : List Element) (n : ℕ) → count ≡ 0 → elements_at count col names bytes [] at None ≡ Ok (xs, n) → [] ≡ xs
none_taken count col names bytes at xs n none e =
    elements_are [] xs at n (ap (λ k. elements_at k col names bytes [] at None) (sym none) ∙ e)

-- Elements are passed beside these others: those taken out, or any where none are put in.
pub delta_ends : (col : Column) (names : ℕ) (bytes : List ℕ) (out into m n : ℕ) (minus others : List Element) → four_bytes any_number bytes 0 ≡ Ok out → elements_at out col names bytes [] 4 None ≡ Ok (minus, m) → four_bytes (λ k. not (out == 0 && k == 0)) bytes m ≡ Ok into
    → (others ≡ minus) ⊎ (into ≡ 0) → (list : List Element) × (elements_at into col names bytes others (m + 4) None ≡ Ok (list, n)) → n ≡ length bytes → (d : Delta) × (changes_in col names bytes ≡ Ok d)
delta_ends col names bytes out into m n minus others e f g (inl same) h whole =
    (_, changes_from col names bytes out into m n minus h.0 e f g (ap (λ s. elements_at into col names bytes s (m + 4) None) (sym same) ∙ h.1) whole)
delta_ends col names bytes out into m n minus others e f g (inr no_more) h whole =
    (_, changes_from col names bytes out into m n minus h.0 e f g (ap (λ k. elements_at k col names bytes minus (m + 4) None) no_more ∙ ap (λ k. elements_at k col names bytes others (m + 4) None) (sym no_more) ∙ h.1) whole)

-- in no bytes there is a delta, whatever the column
pub no_bytes : (col : Column) (names : ℕ) (bytes : List ℕ) → bytes ≡ [] → (d : Delta) × (delta_in col names bytes ≡ Ok d)
no_bytes col names bytes none =
    let d : Delta = record { minus = []; plus = [] } in
    (d, ap (delta_in col names) none ∙ elim (may_change col) as (λ b. cond b (changes_in col names []) (no_changes_in []) ≡ Ok d) [ true ↦ refl | false ↦ refl ])
