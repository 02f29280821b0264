-- The pool whose current graph is a set: its cells, and what they give.
use Rattle.std.proofs.Common.{arith, ◌≡◌, ℕ, suc, zero, eqb, ◌+◌, ◌*◌, ◌/◌, ◌%◌, ◌<◌, ◌≤◌, Bool, true, false, cond, List, [], ◌∷◌, Option, Some, None, length, get_or, set, refl, sym, ap, ◌∙◌, subst}
use Rattle.std.specs.Int.{bit_at}
use Rattle.std.proofs.lemmas.Nat.Bits.{bit_at_above, bit_at-zero}
use Rattle.std.proofs.lemmas.List.{get_or-set_same, length-set}
use Rattle.dg_graph.specs.declared.element.Element.{Element}
use Rattle.dg_graph.specs.Elements.{IsSet, bit, with_one}
use Rattle.dg_set.proofs.Indices.{put-first}
use Rattle.dg_cells.specs.Rows.{Row, cell_at, has_bit, is_current, CellsAreApart, new_row, new_rows}
use Rattle.dg_query.specs.declared.answers.Counts.{Counts}
use Rattle.dg_query.specs.Queries.{counts_of}
use Rattle.dg_pool.specs.declared.slots.SlotState.{SlotState}
use Rattle.dg_pool.specs.declared.slots.SlotState.TheVariants as state
use Rattle.dg_pool.specs.Graphs.{picked, pair_at, slot_at, graph_as, IsBased, IsClean}
use Rattle.dg_pool.specs.Counts.{no_elements, IsCountedPool}

-- a test that each new cell passes gives all elements
pub picked_new : (test : Row → Bool) (on : Bool) (items : List Element) → IsSet items → ((x : Element) → test (new_row on x) ≡ true) → picked test (new_rows on items) ≡ items
picked_new test on [] rising passes = refl
picked_new test on (x ∷ items) rising passes =
    ap (λ (l : List Element). with_one l (cond (test (new_row on x)) (Some x) None)) (picked_new test on items rising.1 passes)
    ∙ ap (λ (t : Bool). with_one items (cond t (Some x) None)) (passes x)
    ∙ put-first x items rising.0

abbrev zeros : List ℕ
zeros = 0 ∷ 0 ∷ 0 ∷ []

none : (k : ℕ) → get_or zeros k 0 ≡ 0
none zero = refl
none (suc zero) = refl
none (suc (suc zero)) = refl
none (suc (suc (suc k))) = refl

-- a new cell has no bit but the first
no_bit : (on : Bool) (x : Element) (b : ℕ) → 1 ≤ b → has_bit (new_row on x) b ≡ false
no_bit on x b low =
    let off : bit_at (get_or (bit on ∷ 0 ∷ 0 ∷ 0 ∷ []) (b / 64) 0) (b % 64) ≡ 0 = by (b / 64) refl in
    ap (λ (n : ℕ). eqb n 1) off
  where
    by : (w : ℕ) → b / 64 ≡ w → bit_at (get_or (bit on ∷ 0 ∷ 0 ∷ 0 ∷ []) (b / 64) 0) (b % 64) ≡ 0
    by zero e =
        ap (λ (w : ℕ). bit_at (get_or (bit on ∷ 0 ∷ 0 ∷ 0 ∷ []) w 0) (b % 64)) e
        ∙ bit_at_above (bit on) 1 (b % 64) (elim on as (λ t. bit t < 2) [ true ↦ omega arith | false ↦ omega arith ]) (omega arith)
    by (suc w) e = ap (λ (k : ℕ). bit_at (get_or (bit on ∷ zeros) k 0) (b % 64)) e ∙ ap (λ (n : ℕ). bit_at n (b % 64)) (none w) ∙ bit_at-zero (b % 64)

-- no slot has a bit in a new cell
pub clean_new : (on : Bool) (s : ℕ) → 1 ≤ s → (items : List Element) (n : ℕ) → pair_at s (cell_at (new_rows on items) n) ≡ (false, false)
clean_new on s low [] n = refl
clean_new on s low (x ∷ items) zero =
    let first = no_bit on x (2 * s) (omega arith) in
    let second = no_bit on x (2 * s + 1) (omega arith) in
    λ i. (first i, second i)
clean_new on s low (x ∷ items) (suc n) = clean_new on s low items n

module _ (items : List Element) (rows : List (Option Row)) (rising : IsSet items) (rows_are : rows ≡ new_rows true items) where
  pub now_whole : picked is_current rows ≡ items
  now_whole = ap (picked is_current) rows_are ∙ picked_new is_current true items rising (λ x. refl)

  pub cells_whole : picked (λ (r : Row). true) rows ≡ items
  cells_whole = ap (picked (λ (r : Row). true)) rows_are ∙ picked_new (λ (r : Row). true) true items rising (λ x. refl)

  module _ (slots : List SlotState) (counts : List Counts) (now : Counts) (apart : CellsAreApart rows) (count : length slots ≡ 128) (free : (s : ℕ) → slot_at slots s ≡ state.Free) (len : length counts ≡ 128) (now_is : now ≡ counts_of items) where
    pub whole_pool : IsCountedPool (record { rows = rows; slots = slots; sweep_index = 0 }) (set counts 0 now)
    whole_pool = record {
      pool = record {
        slots = record {
          count = count;
          first = free 0;
          bases = λ s low. subst (IsBased slots) (sym (free s)) tt;
        };
        apart = apart;
        clean = λ s low. subst (IsClean rows 0 s) (sym (free s)) (λ n. ap (λ (l : List (Option Row)). pair_at s (cell_at l n)) rows_are ∙ clean_new true s low items n);
      };
      counted = record {
        len = length-set counts 0 now ∙ len;
        now = get_or-set_same counts 0 now no_elements (omega arith) ∙ now_is ∙ ap counts_of (sym now_whole);
        slots = λ s g e. let none : None ≡ Some g = sym (ap (graph_as rows s) (free s)) ∙ e in cc;
      };
    }
