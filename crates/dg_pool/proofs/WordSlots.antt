-- The bits of slots in one word.
use Rattle.std.specs.Int.{bit_at}
use Rattle.std.proofs.lemmas.Nat.Bits.{bit_at-zero}
use Rattle.std.proofs.Common.{arith, ◌≡◌, ℕ, ◌+◌, ◌*◌, ◌/◌, ◌%◌, ◌<◌, ◌≤◌, Bool, true, false, eqb, ◌||◌, ◌&&◌, List, [], ◌∷◌, ◌++◌, get_or, refl, sym, ap, ◌∙◌, ◌⊎◌, inl, inr}
use Rattle.std.proofs.lemmas.Bool.{cases_eq, ne_eqb}
use Rattle.std.proofs.Math.Bool.{or-false}
use Rattle.dg_graph.specs.Elements.{column_of}
use Rattle.dg_cells.specs.Rows.{Row, has_bit, pair, word_bit}
use Rattle.dg_pool.specs.declared.slots.Slot.{Slot}
use Rattle.dg_pool.specs.declared.slots.SlotState.{SlotState}
use Rattle.dg_pool.specs.Graphs.{slot_at, is_listed, is_on_now}
use Rattle.dg_pool.specs.Masks.{is_asking, explicit_in, own_in}
use Rattle.dg_pool.specs.Changes.{numbers_of, AreMarks, AreWithin, IsMarked, IsMarkedWord, IsPairWord, IsMovedWord, moves, base_has, is_on_slot}
use Rattle.dg_pool.proofs.ChangeMasks.{listed_more}
use Rattle.dg_pool.proofs.MovedSlots.{base_of_now}

-- ---- a word of a mask

module _ (mask : List ℕ) (s index : ℕ) (here : s / 32 ≡ index) where
  pub explicit_of : explicit_in (get_or mask index 0) s ≡ word_bit mask (2 * s)
  explicit_of =
      let p : index ≡ (2 * s) / 64 = omega arith in
      let q : 2 * (s % 32) ≡ (2 * s) % 64 = omega arith in
      λ i. eqb (bit_at (get_or mask (p i) 0) (q i)) 1

  pub own_of : own_in (get_or mask index 0) s ≡ word_bit mask (2 * s + 1)
  own_of =
      let p : index ≡ (2 * s + 1) / 64 = omega arith in
      let q : 2 * (s % 32) + 1 ≡ (2 * s + 1) % 64 = omega arith in
      λ i. eqb (bit_at (get_or mask (p i) 0) (q i)) 1

and_true : (b : Bool) → b ≡ (b && true)
and_true true = refl
and_true false = refl

and_false : (b : Bool) → false ≡ (b && false)
and_false true = refl
and_false false = refl

module _ (numbers ones pairs : List ℕ) (m : AreMarks numbers ones pairs) (index : ℕ) (low : index < 4) where
  pub both_word : IsPairWord numbers true index (get_or pairs index 0)
  both_word = record {
    explicit = λ s e. explicit_of pairs s index e ∙ m.both s (omega arith);
    own = λ s e. own_of pairs s index e ∙ m.own s (omega arith) ∙ and_true (is_listed numbers s);
  }

  pub explicit_word : IsPairWord numbers false index (get_or ones index 0)
  explicit_word = record {
    explicit = λ s e. explicit_of ones s index e ∙ m.explicit s (omega arith);
    own = λ s e. own_of ones s index e ∙ m.no_own s (omega arith) ∙ and_false (is_listed numbers s);
  }

pub marked_word : (test : SlotState → Bool) (states : List SlotState) (numbers mask : List ℕ) → IsMarked test states numbers mask → (index : ℕ) → index < 4 → IsMarkedWord test states numbers index (get_or mask index 0)
marked_word test states numbers mask m index low = record {
  marks = λ s e. explicit_of mask s index e ∙ m.marks s (omega arith);
  no_own = λ s e. own_of mask s index e ∙ m.no_own s (omega arith);
}

-- ---- the slots whose base has the element, where none rests on another slot

zero_in : (s : ℕ) → explicit_in 0 s ≡ false
zero_in s = ap (λ n. eqb n 1) (bit_at-zero (2 * (s % 32)))

zero_own : (s : ℕ) → own_in 0 s ≡ false
zero_own s = ap (λ n. eqb n 1) (bit_at-zero (2 * (s % 32) + 1))

module _ (r : Row) (states : List SlotState) (numbers : List ℕ) (none : (s : ℕ) → is_listed numbers s ≡ true → is_on_slot (slot_at states s) ≡ false) (index : ℕ) where
  -- the base has the element where the slot rests on the current graph, which has it
  by_now : (s : ℕ) → (is_listed numbers s && base_has r (slot_at states s)) ≡ ((is_listed numbers s && is_on_now (slot_at states s)) && has_bit r 0)
  by_now s = at (is_listed numbers s) refl
    where
      at : (t : Bool) → is_listed numbers s ≡ t → (is_listed numbers s && base_has r (slot_at states s)) ≡ ((is_listed numbers s && is_on_now (slot_at states s)) && has_bit r 0)
      at true e =
          ap (λ t. t && base_has r (slot_at states s)) e ∙ base_of_now r (slot_at states s) (none s e)
          ∙ sym (ap (λ t. (t && is_on_now (slot_at states s)) && has_bit r 0) e)
      at false e = ap (λ t. t && base_has r (slot_at states s)) e ∙ sym (ap (λ t. (t && is_on_now (slot_at states s)) && has_bit r 0) e)

  pub base_now : (word : ℕ) → IsMarkedWord is_on_now states numbers index word → has_bit r 0 ≡ true → IsMarkedWord (base_has r) states numbers index word
  base_now word m has = record {
    marks = λ s e. m.marks s e ∙ and_true (is_listed numbers s && is_on_now (slot_at states s)) ∙ ap (λ b. (is_listed numbers s && is_on_now (slot_at states s)) && b) (sym has) ∙ sym (by_now s);
    no_own = m.no_own;
  }

  pub base_not_now : has_bit r 0 ≡ false → IsMarkedWord (base_has r) states numbers index 0
  base_not_now lacks = record {
    marks = λ s e. zero_in s ∙ and_false (is_listed numbers s && is_on_now (slot_at states s)) ∙ ap (λ b. (is_listed numbers s && is_on_now (slot_at states s)) && b) (sym lacks) ∙ sym (by_now s);
    no_own = λ s e. zero_own s;
  }

  pub base_none : (word : ℕ) → IsMarkedWord is_on_now states numbers index word → word ≡ 0 → IsMarkedWord (base_has r) states numbers index 0
  base_none word m is = record {
    marks = λ s e.
        let off : false ≡ (is_listed numbers s && is_on_now (slot_at states s)) = sym (zero_in s) ∙ ap (λ w. explicit_in w s) (sym is) ∙ m.marks s e in
        zero_in s ∙ ap (λ b. b && has_bit r 0) off ∙ sym (by_now s);
    no_own = λ s e. zero_own s;
  }

-- ---- the slots whose graphs get the element or lose it

module _ (own : Bool) (r : Row) (states : List SlotState) (numbers : List ℕ) (index bits base asking word : ℕ) (is : bits ≡ get_or r.bits index 0)
    (b : IsMarkedWord (base_has r) states numbers index base) (a : IsMarkedWord (is_asking (column_of r.element)) states numbers index asking)
    (f : (i : ℕ) → i < 64 → eqb (bit_at word i) 1 ≡ moves own (eqb (bit_at bits i) 1) (eqb (bit_at bits (i + 1)) 1) (eqb (bit_at base i) 1) (eqb (bit_at asking i) 1)) where
  listed_alone : (t e o p q : Bool) → moves own e o (t && p) (t && q) ≡ (t && moves own e o p q)
  listed_alone true e o p q = refl
  listed_alone false e o p q = refl

  pub moved_word : IsMovedWord states numbers own r index word
  moved_word = record {
    moved = λ s e.
        f (2 * (s % 32)) (omega arith)
        ∙ (λ i. moves own ((ap (λ w. explicit_in w s) is ∙ explicit_of r.bits s index e) i) ((ap (λ w. own_in w s) is ∙ own_of r.bits s index e) i) (b.marks s e i) (a.marks s e i))
        ∙ listed_alone (is_listed numbers s) (pair s r).0 (pair s r).1 (base_has r (slot_at states s)) (is_asking (column_of r.element) (slot_at states s));
    no_own = λ s.
        let t = 32 * index + s % 32 in
        let same : s % 32 ≡ t % 32 = omega arith in
        f (2 * (s % 32) + 1) (omega arith)
        ∙ ap (moves own (own_in bits s) (eqb (bit_at bits (2 * (s % 32) + 1 + 1)) 1) (own_in base s)) (ap (λ k. eqb (bit_at asking (2 * k + 1)) 1) same ∙ a.no_own t (omega arith));
  }

-- ---- the words that have bits of the slots, with one slot more

pub within_more : (slots next : List Slot) (t : Slot) → next ≡ slots ++ t ∷ [] → (first past first2 past2 : ℕ) → AreWithin (numbers_of slots) first past
    → first2 ≤ first → first2 ≤ t.0 / 32 → past ≤ past2 → t.0 / 32 < past2 → past2 ≤ 4 → AreWithin (numbers_of next) first2 past2
within_more slots next t more first past first2 past2 w lower low upper high few = record { few = few; words = λ s e. at s (cases_eq t.0 s) (sym (listed_next s) ∙ e) }
  where
    listed_next : (s : ℕ) → is_listed (numbers_of next) s ≡ (is_listed (numbers_of slots) s || eqb t.0 s)
    listed_next s = ap (λ (l : List Slot). is_listed (numbers_of l) s) more ∙ listed_more slots t s

    at : (s : ℕ) → ((t.0 ≡ s) ⊎ (t.0 ≡ s → ⊥)) → (is_listed (numbers_of slots) s || eqb t.0 s) ≡ true → (first2 ≤ s / 32) × (s / 32 < past2)
    at s (inl e) k = let p : t.0 / 32 ≡ s / 32 = ap (λ n. n / 32) e in (omega arith, omega arith)
    at s (inr d) k =
        let old = w.words s (sym (or-false (is_listed (numbers_of slots) s)) ∙ sym (ap (λ b. is_listed (numbers_of slots) s || b) (ne_eqb t.0 s d)) ∙ k) in
        (omega (arith, old.0), omega (arith, old.1))
