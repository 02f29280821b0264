-- Which slots gain or lose an element, by words of arithmetic.
use Rattle.std.specs.Prelude.{bit_and, bit_or}
use Rattle.std.specs.Int.{bit_at}
use Rattle.std.specs.Int.Bits.{and_lt}
use Rattle.std.proofs.lemmas.Nat.{or_lt}
use Rattle.std.proofs.lemmas.Nat.Bits.{bit_at_and, bit_at_or, bit_at_not, bit_at-lt, bit_at-suc}
use Rattle.std.proofs.Common.{w64, arith, suc, zero, min, max, ◌≡◌, ℕ, ◌+◌, ◌*◌, ◌-◌, ◌/◌, ◌^◌, ◌<◌, Bool, true, false, cond, eqb, not, ◌||◌, ◌&&◌, List, [], ◌∷◌, ◌++◌, length, refl, sym, ap, ◌∙◌, ◌⊎◌, inl, inr}
use mathlib.Core.Bool.{beq}
use Rattle.std.proofs.Math.Bool.{or-false}
use Rattle.std.proofs.lemmas.Bool.{cases_eq, eq-eqb, ne_eqb}
use Rattle.dg_graph.specs.Elements.{asks, column_of}
use Rattle.dg_cells.specs.Rows.{Row, has_bit, pair, word_bit}
use Rattle.dg_pool.specs.declared.slots.Slot.{Slot}
use Rattle.dg_pool.specs.declared.slots.Base.TheVariants as base
use Rattle.dg_pool.specs.declared.slots.SlotState.{SlotState}
use Rattle.dg_pool.specs.declared.slots.SlotState.TheVariants as state
use Rattle.dg_delta.specs.Deltas.{is_in_after}
use Rattle.dg_pool.specs.Graphs.{slot_at, is_listed, is_on_now, pair_says, in_base}
use Rattle.dg_pool.specs.Masks.{is_asking}
use Rattle.dg_pool.specs.Sweeps.{in_state}
use Rattle.dg_pool.specs.Changes.{numbers_of, IsMarked, moves, base_has, is_on_slot, will_have}
use Rattle.dg_pool.proofs.ChangeMasks.{listed_more}

-- ---- a mask of those slots that pass a test, with one slot more

module _ (test : SlotState → Bool) (states : List SlotState) (slots next : List Slot) (t : Slot) (more : next ≡ slots ++ t ∷ []) where
  abbrev tested : Bool → ℕ → Bool
  tested b s = b && test (slot_at states s)

  listed_next : (s : ℕ) → is_listed (numbers_of next) s ≡ (is_listed (numbers_of slots) s || eqb t.0 s)
  listed_next s = ap (λ (l : List Slot). is_listed (numbers_of l) s) more ∙ listed_more slots t s

  or_true : (b : Bool) → (b || true) ≡ true
  or_true true = refl
  or_true false = refl

  and_false : (b : Bool) → (b && false) ≡ false
  and_false true = refl
  and_false false = refl

  pub marked_put : (mask mask2 : List ℕ) → IsMarked test states (numbers_of slots) mask → length mask2 ≡ 4 → ((c : ℕ) → word_bit mask2 c ≡ (eqb c (2 * t.0) || word_bit mask c)) → test (slot_at states t.0) ≡ true → IsMarked test states (numbers_of next) mask2
  marked_put mask mask2 m len one passes = record {
    len = len;
    marks = λ s h. at s h (cases_eq s t.0);
    no_own = λ s h. one (2 * s + 1) ∙ (λ i. ne_eqb (2 * s + 1) (2 * t.0) (λ e. omega arith) i || m.no_own s h i);
  }
    where
      at : (s : ℕ) → s < 128 → ((s ≡ t.0) ⊎ (s ≡ t.0 → ⊥)) → word_bit mask2 (2 * s) ≡ tested (is_listed (numbers_of next) s) s
      at s h (inl e) =
          one (2 * s) ∙ ap (λ b. b || word_bit mask (2 * s)) (eq-eqb (2 * s) (2 * t.0) (ap (λ n. 2 * n) e))
          ∙ sym (ap (λ b. tested b s) (listed_next s ∙ ap (λ b. is_listed (numbers_of slots) s || b) (eq-eqb t.0 s (sym e)) ∙ or_true (is_listed (numbers_of slots) s)) ∙ ap (λ n. test (slot_at states n)) e ∙ passes)
      at s h (inr d) =
          one (2 * s) ∙ ap (λ b. b || word_bit mask (2 * s)) (ne_eqb (2 * s) (2 * t.0) (λ e. d (omega arith))) ∙ m.marks s h
          ∙ sym (ap (λ b. tested b s) (listed_next s ∙ ap (λ b. is_listed (numbers_of slots) s || b) (ne_eqb t.0 s (λ e. d (sym e))) ∙ or-false (is_listed (numbers_of slots) s)))

  pub marked_skip : (mask : List ℕ) → IsMarked test states (numbers_of slots) mask → test (slot_at states t.0) ≡ false → IsMarked test states (numbers_of next) mask
  marked_skip mask m fails = record { len = m.len; marks = λ s h. m.marks s h ∙ at s (cases_eq s t.0); no_own = m.no_own }
    where
      at : (s : ℕ) → ((s ≡ t.0) ⊎ (s ≡ t.0 → ⊥)) → tested (is_listed (numbers_of slots) s) s ≡ tested (is_listed (numbers_of next) s) s
      at s (inl e) =
          let none = ap (λ n. test (slot_at states n)) e ∙ fails in
          ap (λ b. is_listed (numbers_of slots) s && b) none ∙ and_false (is_listed (numbers_of slots) s)
          ∙ sym (ap (λ b. is_listed (numbers_of next) s && b) none ∙ and_false (is_listed (numbers_of next) s))
      at s (inr d) = sym (ap (λ b. tested b s) (listed_next s ∙ ap (λ b. is_listed (numbers_of slots) s || b) (ne_eqb t.0 s (λ e. d (sym e))) ∙ or-false (is_listed (numbers_of slots) s)))

  -- no slot passes the test, with one more that fails
  pub fails_more : ((s : ℕ) → is_listed (numbers_of slots) s ≡ true → test (slot_at states s) ≡ false) → test (slot_at states t.0) ≡ false → (s : ℕ) → is_listed (numbers_of next) s ≡ true → test (slot_at states s) ≡ false
  fails_more none fails s k = at (cases_eq s t.0)
    where
      at : ((s ≡ t.0) ⊎ (s ≡ t.0 → ⊥)) → test (slot_at states s) ≡ false
      at (inl e) = ap (λ n. test (slot_at states n)) e ∙ fails
      at (inr d) =
          none s (sym (or-false (is_listed (numbers_of slots) s)) ∙ sym (ap (λ b. is_listed (numbers_of slots) s || b) (ne_eqb t.0 s (λ e. d (sym e)))) ∙ sym (listed_next s) ∙ k)

-- a slot that rests on no other slot has an element of its base where it rests on the current graph, which has it
pub base_of_now : (r : Row) (slot : SlotState) → is_on_slot slot ≡ false → base_has r slot ≡ (is_on_now slot && has_bit r 0)
base_of_now r state.Free e = refl
base_of_now r (state.Released swept) e = refl
base_of_now r (state.Live base.Nothing cols) e = refl
base_of_now r (state.Live base.Now cols) e = refl
base_of_now r (state.Live (base.Slot b) cols) e = cc

-- ---- one word

had_table : (a b q : ℕ) → a < 2 → b < 2 → q < 2 → eqb (max (min a b) (min (1 - a) q)) 1 ≡ cond (eqb a 1) (eqb b 1) (eqb q 1)
had_table zero zero zero h g f = refl
had_table zero zero (suc zero) h g f = refl
had_table zero (suc zero) zero h g f = refl
had_table zero (suc zero) (suc zero) h g f = refl
had_table (suc zero) zero zero h g f = refl
had_table (suc zero) zero (suc zero) h g f = refl
had_table (suc zero) (suc zero) zero h g f = refl
had_table (suc zero) (suc zero) (suc zero) h g f = refl
had_table (suc (suc a)) b q h g f = absurd (omega arith)
had_table zero (suc (suc b)) q h g f = absurd (omega arith)
had_table zero zero (suc (suc q)) h g f = absurd (omega arith)
had_table zero (suc zero) (suc (suc q)) h g f = absurd (omega arith)
had_table (suc zero) (suc (suc b)) q h g f = absurd (omega arith)
had_table (suc zero) zero (suc (suc q)) h g f = absurd (omega arith)
had_table (suc zero) (suc zero) (suc (suc q)) h g f = absurd (omega arith)

lost_table : (m x : ℕ) → m < 2 → x < 2 → eqb (min m x) 1 ≡ (eqb m 1 && eqb x 1)
lost_table zero zero h g = refl
lost_table zero (suc zero) h g = refl
lost_table (suc zero) zero h g = refl
lost_table (suc zero) (suc zero) h g = refl
lost_table (suc (suc a)) b h g = absurd (omega arith)
lost_table zero (suc (suc b)) h g = absurd (omega arith)
lost_table (suc zero) (suc (suc b)) h g = absurd (omega arith)

got_table : (m x : ℕ) → m < 2 → x < 2 → eqb (min m (1 - x)) 1 ≡ (eqb m 1 && not (eqb x 1))
got_table zero zero h g = refl
got_table zero (suc zero) h g = refl
got_table (suc zero) zero h g = refl
got_table (suc zero) (suc zero) h g = refl
got_table (suc (suc a)) b h g = absurd (omega arith)
got_table zero (suc (suc b)) h g = absurd (omega arith)
got_table (suc zero) (suc (suc b)) h g = absurd (omega arith)

module _ (bits base asking : ℕ) (fits : bits < 2 ^ 64) (base_fits : base < 2 ^ 64) where
  abbrev pub had : ℕ
  had = bit_or (bit_and bits (bits / 2 ^ 1)) (bit_and (18446744073709551615 - bits) base)

  pub had_small : had < 2 ^ 64
  had_small =
      or_lt 64 (bit_and bits (bits / 2 ^ 1)) (bit_and (18446744073709551615 - bits) base)
      (and_lt 64 bits (bits / 2 ^ 1) fits (omega arith)) (and_lt 64 (18446744073709551615 - bits) base (omega arith) base_fits)

  had_bit : (i : ℕ) → i < 64 → eqb (bit_at had i) 1 ≡ cond (eqb (bit_at bits i) 1) (eqb (bit_at bits (i + 1)) 1) (eqb (bit_at base i) 1)
  had_bit i h =
      ap (λ n. eqb n 1) (bit_at_or (bit_and bits (bits / 2 ^ 1)) (bit_and (18446744073709551615 - bits) base) i
      ∙ (λ j. max ((bit_at_and bits (bits / 2 ^ 1) i ∙ ap (min (bit_at bits i)) (sym (bit_at-suc bits i))) j) ((bit_at_and (18446744073709551615 - bits) base i ∙ ap (λ n. min n (bit_at base i)) (bit_at_not w64 bits i fits (omega arith))) j)))
      ∙ had_table (bit_at bits i) (bit_at bits (suc i)) (bit_at base i) (bit_at-lt bits i) (bit_at-lt bits (suc i)) (bit_at-lt base i)
      ∙ ap (λ n. cond (eqb (bit_at bits i) 1) (eqb (bit_at bits n) 1) (eqb (bit_at base i) 1)) (omega arith)

  pub got_word : (i : ℕ) → i < 64 → eqb (bit_at (bit_and asking (18446744073709551615 - had)) i) 1 ≡ moves true (eqb (bit_at bits i) 1) (eqb (bit_at bits (i + 1)) 1) (eqb (bit_at base i) 1) (eqb (bit_at asking i) 1)
  got_word i h =
      ap (λ n. eqb n 1) (bit_at_and asking (18446744073709551615 - had) i ∙ ap (min (bit_at asking i)) (bit_at_not w64 had i had_small (omega arith)))
      ∙ got_table (bit_at asking i) (bit_at had i) (bit_at-lt asking i) (bit_at-lt had i)
      ∙ ap (λ b. eqb (bit_at asking i) 1 && not b) (had_bit i h)

  pub lost_word : (i : ℕ) → i < 64 → eqb (bit_at (bit_and asking had) i) 1 ≡ moves false (eqb (bit_at bits i) 1) (eqb (bit_at bits (i + 1)) 1) (eqb (bit_at base i) 1) (eqb (bit_at asking i) 1)
  lost_word i h =
      ap (λ n. eqb n 1) (bit_at_and asking had i)
      ∙ lost_table (bit_at asking i) (bit_at had i) (bit_at-lt asking i) (bit_at-lt had i)
      ∙ ap (λ b. eqb (bit_at asking i) 1 && b) (had_bit i h)

-- ---- what moves is what the counts go by

pub state_moves : (own : Bool) (s : ℕ) (r : Row) (slot : SlotState) → moves own (pair s r).0 (pair s r).1 (base_has r slot) (is_asking (column_of r.element) slot) ≡ not (beq (in_state s slot r) (will_have own slot r))
state_moves true s r state.Free = refl
state_moves false s r state.Free = refl
state_moves true s r (state.Released swept) = refl
state_moves false s r (state.Released swept) = refl
state_moves true s r (state.Live b cols) = by (asks cols (column_of r.element)) (pair s r).0 (pair s r).1 (in_base b r)
  where
    by : (k e o q : Bool) → moves true e o q k ≡ not (beq (k && is_in_after (pair_says (e, o)) q) (true && k))
    by true true true q = refl
    by true true false q = refl
    by true false o true = refl
    by true false o false = refl
    by false e o q = refl
state_moves false s r (state.Live b cols) = by (asks cols (column_of r.element)) (pair s r).0 (pair s r).1 (in_base b r)
  where
    by : (k e o q : Bool) → moves false e o q k ≡ not (beq (k && is_in_after (pair_says (e, o)) q) (false && k))
    by true true true q = refl
    by true true false q = refl
    by true false o true = refl
    by true false o false = refl
    by false e o q = refl

-- where a graph gets the element or loses it, it has it then as is written
pub moved_on : (own : Bool) (s : ℕ) (r : Row) (slot : SlotState) → not (beq (in_state s slot r) (will_have own slot r)) ≡ true → will_have own slot r ≡ own
moved_on own s r state.Free e = by own e
  where
    by : (own : Bool) → not (beq false (own && false)) ≡ true → (own && false) ≡ own
    by true e = cc
    by false e = cc
moved_on own s r (state.Released swept) e = by own e
  where
    by : (own : Bool) → not (beq false (own && false)) ≡ true → (own && false) ≡ own
    by true e = cc
    by false e = cc
moved_on own s r (state.Live b cols) e = by own (asks cols (column_of r.element)) (is_in_after (pair_says (pair s r)) (in_base b r)) e
  where
    by : (own k i : Bool) → not (beq (k && i) (own && k)) ≡ true → (own && k) ≡ own
    by true true i e = refl
    by true false i e = cc
    by false true i e = refl
    by false false i e = refl
