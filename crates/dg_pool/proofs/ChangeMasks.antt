-- Which numbers are listed of slots that change together, and what their masks write.
use Rattle.std.proofs.Common.{arith, eqb, get_or, suc, zero, ◌≡◌, ℕ, ◌*◌, ◌+◌, ◌<◌, ◌≤◌, Bool, true, false, ◌||◌, List, [], ◌∷◌, ◌++◌, length, refl, sym, ap, ◌∙◌, ◌⊎◌, inl, inr}
use Rattle.std.proofs.lemmas.Bool.{cases_eq, eq-eqb, ne_eqb}
use Rattle.dg_cells.specs.Rows.{word_bit}
use Rattle.dg_pool.specs.declared.slots.Slot.{Slot}
use Rattle.dg_pool.specs.declared.slots.Base.TheVariants as base
use Rattle.dg_graph.specs.declared.element.Columns.{Columns}
use Rattle.dg_pool.specs.declared.slots.SlotState.{SlotState}
use Rattle.dg_pool.specs.declared.slots.SlotState.TheVariants as state
use Rattle.dg_pool.specs.Graphs.{slot_at, is_live, is_listed, AreSlots, IsBased, IsBaseFor}
use Rattle.dg_pool.specs.Changes.{numbers_of, AreChangeable, AreMarks}
use Rattle.dg_pool.proofs.GraphInvariant.{live_from_one, live_within}
use Rattle.std.proofs.Common.{subst}
use Rattle.std.proofs.Math.Bool.{or-false}

-- ---- listed numbers

or_end : (a b c : Bool) → (a || (b || c)) ≡ ((a || b) || c)
or_end true b c = refl
or_end false b c = refl

pub listed_more : (slots : List Slot) (t : Slot) (s : ℕ) → is_listed (numbers_of (slots ++ t ∷ [])) s ≡ (is_listed (numbers_of slots) s || eqb t.0 s)
listed_more [] t s = or-false (eqb t.0 s)
listed_more (x ∷ slots) t s = ap (λ b. eqb x.0 s || b) (listed_more slots t s) ∙ or_end (eqb x.0 s) (is_listed (numbers_of slots) s) (eqb t.0 s)

pub listed_at : (slots : List Slot) (i : ℕ) (d : Slot) → i < length slots → is_listed (numbers_of slots) (get_or slots i d).0 ≡ true
listed_at [] i d h = absurd (omega arith)
listed_at (t ∷ slots) zero d h = ap (λ z. z || is_listed (numbers_of slots) t.0) (eq-eqb t.0 t.0 refl)
listed_at (t ∷ slots) (suc i) d h = rest (eqb t.0 (get_or slots i d).0) (listed_at slots i d (omega arith))
  where
    rest : (a : Bool) {b : Bool} → b ≡ true → (a || b) ≡ true
    rest true e = refl
    rest false e = e

-- ---- the slots

pub listed_low : (slots : List SlotState) (numbers : List ℕ) → AreChangeable slots numbers → (s : ℕ) → is_listed numbers s ≡ true → 1 ≤ s
listed_low slots numbers can s k = live_from_one slots can.states s (can.live s k)

pub listed_high : (slots : List SlotState) (numbers : List ℕ) → AreChangeable slots numbers → (s : ℕ) → is_listed numbers s ≡ true → s < 128
listed_high slots numbers can s k = live_within slots can.states.count s (can.live s k)

pub zero_unlisted : (slots : List SlotState) (numbers : List ℕ) → AreChangeable slots numbers → is_listed numbers 0 ≡ false
zero_unlisted slots numbers can = at (is_listed numbers 0) refl
  where
    at : (t : Bool) → is_listed numbers 0 ≡ t → is_listed numbers 0 ≡ false
    at true k = let low = listed_low slots numbers can 0 k in absurd (omega arith)
    at false k = k

-- the base of a live slot is a slot
pub base_live : (cols : Columns) (slot : SlotState) → IsBaseFor cols slot → is_live slot ≡ true
base_live cols state.Free h = absurd h
base_live cols (state.Released swept) h = absurd h
base_live cols (state.Live b all) h = refl

pub based_on_live : (slots : List SlotState) → AreSlots slots → (s : ℕ) (b : Slot) (cols : Columns) → slot_at slots s ≡ state.Live (base.Slot b) cols → is_live (slot_at slots b.0) ≡ true
based_on_live slots fit s b cols e =
    base_live cols (slot_at slots b.0) (subst (IsBased slots) e (fit.bases s (live_from_one slots fit s (ap is_live e))))

pub base_high : (slots : List SlotState) → AreSlots slots → (s : ℕ) (b : Slot) (cols : Columns) → slot_at slots s ≡ state.Live (base.Slot b) cols → b.0 ≤ 127
base_high slots fit s b cols e = let high = live_within slots fit.count b.0 (based_on_live slots fit s b cols e) in omega arith

-- ---- the masks, with one slot more

module _ (slots next : List Slot) (t : Slot) (more : next ≡ slots ++ t ∷ []) where
  listed_next : (s : ℕ) → is_listed (numbers_of next) s ≡ (is_listed (numbers_of slots) s || eqb t.0 s)
  listed_next s = ap (λ (l : List Slot). is_listed (numbers_of l) s) more ∙ listed_more slots t s

  halves : (s : ℕ) → ((s ≡ t.0) ⊎ (s ≡ t.0 → ⊥)) → eqb (2 * s) (2 * t.0) ≡ eqb t.0 s
  halves s (inl e) = eq-eqb (2 * s) (2 * t.0) (ap (λ n. 2 * n) e) ∙ sym (eq-eqb t.0 s (sym e))
  halves s (inr d) = ne_eqb (2 * s) (2 * t.0) (λ e. d (omega arith)) ∙ sym (ne_eqb t.0 s (λ e. d (sym e)))

  odd_halves : (s : ℕ) → ((s ≡ t.0) ⊎ (s ≡ t.0 → ⊥)) → eqb (2 * s + 1) (2 * t.0 + 1) ≡ eqb t.0 s
  odd_halves s (inl e) = eq-eqb (2 * s + 1) (2 * t.0 + 1) (ap (λ n. 2 * n + 1) e) ∙ sym (eq-eqb t.0 s (sym e))
  odd_halves s (inr d) = ne_eqb (2 * s + 1) (2 * t.0 + 1) (λ e. d (omega arith)) ∙ sym (ne_eqb t.0 s (λ e. d (sym e)))

  swap : (a b : Bool) → (a || b) ≡ (b || a)
  swap true true = refl
  swap true false = refl
  swap false true = refl
  swap false false = refl

  pub marks_more : (ones pairs ones2 pairs1 pairs2 : List ℕ) → AreMarks (numbers_of slots) ones pairs → length ones2 ≡ 4 → length pairs2 ≡ 4
      → ((c : ℕ) → word_bit ones2 c ≡ (eqb c (2 * t.0) || word_bit ones c)) → ((c : ℕ) → word_bit pairs1 c ≡ (eqb c (2 * t.0) || word_bit pairs c)) → ((c : ℕ) → word_bit pairs2 c ≡ (eqb c (2 * t.0 + 1) || word_bit pairs1 c))
      → AreMarks (numbers_of next) ones2 pairs2
  marks_more ones pairs ones2 pairs1 pairs2 m f g one first second = record {
    ones_len = f;
    pairs_len = g;
    explicit = λ s h. one (2 * s) ∙ (λ i. halves s (cases_eq s t.0) i || m.explicit s h i) ∙ swap (eqb t.0 s) (is_listed (numbers_of slots) s) ∙ sym (listed_next s);
    no_own = λ s h. one (2 * s + 1) ∙ (λ i. ne_eqb (2 * s + 1) (2 * t.0) (λ e. omega arith) i || m.no_own s h i);
    both = λ s h.
        second (2 * s) ∙ (λ i. ne_eqb (2 * s) (2 * t.0 + 1) (λ e. omega arith) i || first (2 * s) i)
        ∙ (λ i. halves s (cases_eq s t.0) i || m.both s h i) ∙ swap (eqb t.0 s) (is_listed (numbers_of slots) s) ∙ sym (listed_next s);
    own = λ s h.
        second (2 * s + 1) ∙ (λ i. odd_halves s (cases_eq s t.0) i || first (2 * s + 1) i)
        ∙ ap (λ b. eqb t.0 s || b) (λ i. ne_eqb (2 * s + 1) (2 * t.0) (λ e. omega arith) i || m.own s h i) ∙ swap (eqb t.0 s) (is_listed (numbers_of slots) s) ∙ sym (listed_next s);
  }
