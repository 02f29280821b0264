-- The counts of the slots of one word.
use Rattle.std.specs.Int.{bit_at}
use Rattle.std.proofs.Common.{arith, ◌≡◌, ℕ, ◌+◌, ◌*◌, ◌/◌, ◌%◌, ◌<◌, ◌≤◌, Bool, true, false, cond, eqb, ltb, not, ◌&&◌, List, refl, sym, ap, ◌∙◌, subst, ◌⊎◌, inl, inr}
use mathlib.Core.Bool.{beq}
use Rattle.std.proofs.lemmas.Bool.{cases_eq, cases_lt, eq-eqb, ne_eqb, true≢false, lt-ltb, le-ltb}
use Rattle.dg_graph.specs.declared.element.Element.{Element}
use Rattle.dg_graph.specs.Elements.{column_of}
use Rattle.dg_cells.specs.Rows.{Row, pair}
use Rattle.dg_query.specs.declared.answers.Counts.{Counts}
use Rattle.dg_pool.specs.declared.slots.SlotState.{SlotState}
use Rattle.dg_pool.specs.Graphs.{slot_at, is_listed}
use Rattle.dg_pool.specs.Masks.{is_asking, explicit_in, own_in}
use Rattle.dg_pool.specs.Sweeps.{in_state}
use Rattle.dg_pool.specs.Counts.{counts_at, one_more, one_less}
use Rattle.dg_pool.specs.Changes.{AreWithin, IsMovedWord, CanCount, CountsMoved, counted, counts_moved, CanRecountAll, RecountsAll, recounted, will_have, moves, base_has}
use Rattle.dg_pool.proofs.ChangeCounts.{recount_moved, recount_stays, moved_more, moved_less}
use Rattle.dg_pool.proofs.MovedSlots.{state_moves, moved_on}

-- ---- one bit of the word after another

module _ (own : Bool) (x : Element) (index left k : ℕ) (high : k < 64) (set : bit_at left k ≡ 1) (even : (s : ℕ) → own_in left s ≡ false) where
  -- the slot whose explicit bit this is
  abbrev pub slot_of : ℕ
  slot_of = 32 * index + k / 2

  place : 2 * (slot_of % 32) ≡ k
  place = at (cases_eq (k % 2) 0)
    where
      at : ((k % 2 ≡ 0) ⊎ (k % 2 ≡ 0 → ⊥)) → 2 * (slot_of % 32) ≡ k
      at (inl e) = omega arith
      at (inr d) =
          let odd : 2 * (slot_of % 32) + 1 ≡ k = omega (arith, odd_is) in
          absurd (true≢false (sym (ap (λ n. eqb n 1) (ap (bit_at left) odd ∙ set)) ∙ even slot_of))
        where
          odd_is : k % 2 ≡ 1
          odd_is = at_most (cases_eq (k % 2) 1)
            where
              at_most : ((k % 2 ≡ 1) ⊎ (k % 2 ≡ 1 → ⊥)) → k % 2 ≡ 1
              at_most (inl e) = e
              at_most (inr f) = absurd (omega (arith, d, f))

  pub set_here : explicit_in left slot_of ≡ true
  set_here = ap (λ n. eqb n 1) (ap (bit_at left) place ∙ set)

  module _ (next : ℕ) (off : bit_at next k ≡ 0) (same : (i : ℕ) → i < 64 → (i ≡ k → ⊥) → bit_at next i ≡ bit_at left i) where
    pub even_next : (s : ℕ) → own_in next s ≡ false
    even_next s = ap (λ n. eqb n 1) (same (2 * (s % 32) + 1) (omega arith) (λ e. let p = place in absurd (omega arith))) ∙ even s

    off_here : explicit_in next slot_of ≡ false
    off_here = ap (λ n. eqb n 1) (ap (bit_at next) place ∙ off)

    -- another slot of the word
    past_here : (s : ℕ) → s / 32 ≡ index → (s ≡ slot_of → ⊥) → explicit_in next s ≡ explicit_in left s
    past_here s here d = ap (λ n. eqb n 1) (same (2 * (s % 32)) (omega arith) (λ e. let p = place in d (omega arith)))

    module _ (before after : List Counts) (now : counts_at after slot_of ≡ counted own x (counts_at before slot_of)) (past : (s : ℕ) → (s ≡ slot_of → ⊥) → counts_at after s ≡ counts_at before s) where
      pub fits_next : ((s : ℕ) → s / 32 ≡ index → explicit_in left s ≡ true → CanCount own x (counts_at before s)) → (s : ℕ) → s / 32 ≡ index → explicit_in next s ≡ true → CanCount own x (counts_at after s)
      fits_next fit s here e = at (cases_eq s slot_of)
        where
          at : ((s ≡ slot_of) ⊎ (s ≡ slot_of → ⊥)) → CanCount own x (counts_at after s)
          at (inl f) = absurd (true≢false (sym e ∙ ap (explicit_in next) f ∙ off_here))
          at (inr d) = subst (CanCount own x) (sym (past s d)) (fit s here (sym (past_here s here d) ∙ e))

      pub moved_next : (s : ℕ) → counts_moved own x index next after s ≡ counts_moved own x index left before s
      moved_next s = at (cases_eq s slot_of)
        where
          here : (slot_of / 32) ≡ index
          here = omega arith

          other : ((s / 32 ≡ index) ⊎ (s / 32 ≡ index → ⊥)) → (s ≡ slot_of → ⊥) → (eqb (s / 32) index && explicit_in next s) ≡ (eqb (s / 32) index && explicit_in left s)
          other (inl e) d = ap (λ b. eqb (s / 32) index && b) (past_here s e d)
          other (inr f) d = ap (λ b. b && explicit_in next s) (ne_eqb (s / 32) index f) ∙ sym (ap (λ b. b && explicit_in left s) (ne_eqb (s / 32) index f))

          at : ((s ≡ slot_of) ⊎ (s ≡ slot_of → ⊥)) → counts_moved own x index next after s ≡ counts_moved own x index left before s
          at (inl e) =
              ap (counts_moved own x index next after) e
              ∙ ap (λ b. cond b (counted own x (counts_at after slot_of)) (counts_at after slot_of)) ((λ i. eqb (slot_of / 32) index && off_here i) ∙ ap (λ b. b && false) (eq-eqb (slot_of / 32) index here))
              ∙ now
              ∙ sym (ap (λ b. cond b (counted own x (counts_at before slot_of)) (counts_at before slot_of)) (λ i. eq-eqb (slot_of / 32) index here i && set_here i))
              ∙ ap (counts_moved own x index left before) (sym e)
          at (inr d) =
              ap (λ b. cond b (counted own x (counts_at after s)) (counts_at after s)) (other (cases_eq (s / 32) index) d)
              ∙ ap (λ c. cond (eqb (s / 32) index && explicit_in left s) (counted own x c) c) (past s d)

-- a word with no bit counts nothing
pub nothing_moved : (own : Bool) (x : Element) (index word : ℕ) (counts : List Counts) → ((s : ℕ) → explicit_in word s ≡ false) → (s : ℕ) → counts_at counts s ≡ counts_moved own x index word counts s
nothing_moved own x index word counts none s = at (eqb (s / 32) index) refl
  where
    at : (t : Bool) → eqb (s / 32) index ≡ t → counts_at counts s ≡ counts_moved own x index word counts s
    at true e = sym (ap (λ b. cond b (counted own x (counts_at counts s)) (counts_at counts s)) (λ i. e i && none s i))
    at false e = sym (ap (λ b. cond b (counted own x (counts_at counts s)) (counts_at counts s)) (ap (λ b. b && explicit_in word s) e))

-- ---- one word after another

module _ (states : List SlotState) (numbers : List ℕ) (own : Bool) (r : Row) (start : List Counts) where
  abbrev had : ℕ → Bool
  had s = in_state s (slot_at states s) r

  abbrev on : ℕ → Bool
  on s = will_have own (slot_at states s) r

  abbrev kept : ℕ → Counts
  kept s = cond (is_listed numbers s) (recounted (had s) (on s) r.element (counts_at start s)) (counts_at start s)

  -- the counts of the slots are kept that have their bits in words below this one
  abbrev pub RecountsBelow : ℕ → List Counts → Type 0
  RecountsBelow below counts = (s : ℕ) → counts_at counts s ≡ cond (ltb (s / 32) below) (kept s) (counts_at start s)

  unlisted : (s : ℕ) → is_listed numbers s ≡ false → counts_at start s ≡ kept s
  unlisted s e = sym (ap (λ b. cond b (recounted (had s) (on s) r.element (counts_at start s)) (counts_at start s)) e)

  abbrev changes : ℕ → Bool
  changes s = moves own (pair s r).0 (pair s r).1 (base_has r (slot_at states s)) (is_asking (column_of r.element) (slot_at states s))

  module _ (first past : ℕ) (within : AreWithin numbers first past) where
    none_below : (s : ℕ) → s / 32 < first → is_listed numbers s ≡ false
    none_below s low = at (is_listed numbers s) refl
      where
        at : (t : Bool) → is_listed numbers s ≡ t → is_listed numbers s ≡ false
        at true e = let w = within.words s e in absurd (omega (arith, w.0))
        at false e = e

    none_past : (s : ℕ) → past ≤ s / 32 → is_listed numbers s ≡ false
    none_past s high = at (is_listed numbers s) refl
      where
        at : (t : Bool) → is_listed numbers s ≡ t → is_listed numbers s ≡ false
        at true e = let w = within.words s e in absurd (omega (arith, w.1))
        at false e = e

    pub recounts_first : RecountsBelow first start
    recounts_first s = at (cases_lt (s / 32) first)
      where
        at : ((s / 32 < first) ⊎ (first ≤ s / 32)) → counts_at start s ≡ cond (ltb (s / 32) first) (kept s) (counts_at start s)
        at (inl e) = unlisted s (none_below s e) ∙ sym (ap (λ b. cond b (kept s) (counts_at start s)) (lt-ltb (s / 32) first e))
        at (inr e) = sym (ap (λ b. cond b (kept s) (counts_at start s)) (le-ltb (s / 32) first e))

    pub recounts_last : (below : ℕ) → past ≤ below → (counts : List Counts) → RecountsBelow below counts → RecountsAll states numbers own r start counts
    recounts_last below high counts done s = at (cases_lt (s / 32) below)
      where
        at : ((s / 32 < below) ⊎ (below ≤ s / 32)) → counts_at counts s ≡ kept s
        at (inl e) = done s ∙ ap (λ b. cond b (kept s) (counts_at start s)) (lt-ltb (s / 32) below e)
        at (inr e) = done s ∙ ap (λ b. cond b (kept s) (counts_at start s)) (le-ltb (s / 32) below e) ∙ unlisted s (none_past s (omega arith))

  module _ (x : Element) (same : r.element ≡ x) (index word : ℕ) (m : IsMovedWord states numbers own r index word) (counts : List Counts) (done : RecountsBelow index counts) where
    still : (s : ℕ) → s / 32 ≡ index → counts_at counts s ≡ counts_at start s
    still s here = done s ∙ ap (λ b. cond b (kept s) (counts_at start s)) (le-ltb (s / 32) index (omega arith))

    -- a slot of which the word has the bit is listed, and its graph gets the element or loses it
    bit_moves : (s : ℕ) → s / 32 ≡ index → explicit_in word s ≡ true → (is_listed numbers s ≡ true) × (not (beq (had s) (on s)) ≡ true)
    bit_moves s here e = at (is_listed numbers s) refl (sym (m.moved s here) ∙ e)
      where
        at : (t : Bool) → is_listed numbers s ≡ t → (is_listed numbers s && changes s) ≡ true → (is_listed numbers s ≡ true) × (not (beq (had s) (on s)) ≡ true)
        at true e f = (e, sym (state_moves own s r (slot_at states s)) ∙ sym (ap (λ b. b && changes s) e) ∙ f)
        at false e f = absurd (true≢false (sym f ∙ ap (λ b. b && changes s) e))

    pub can_count : CanRecountAll states numbers own r start → (s : ℕ) → s / 32 ≡ index → explicit_in word s ≡ true → CanCount own x (counts_at counts s)
    can_count fit s here e =
        let b = bit_moves s here e in
        let as_written = moved_on own s r (slot_at states s) b.1 in
        subst (λ (c : Counts). CanCount own x c) (sym (still s here))
        (subst (λ (y : Element). CanCount own y (counts_at start s)) same (record {
          more = λ put. moved_more (had s) (on s) r.element (counts_at start s) (fit s b.0) b.1 (as_written ∙ put);
          less = λ out. moved_less (had s) (on s) r.element (counts_at start s) (fit s b.0) b.1 (as_written ∙ out);
        }))

    pub recounts_next : (after : List Counts) → CountsMoved own x index word counts after → RecountsBelow (index + 1) after
    recounts_next after moved s = at (cases_eq (s / 32) index)
      where
        counted_here : (t : Bool) → is_listed numbers s ≡ t → (c : Bool) → changes s ≡ c → cond (is_listed numbers s && changes s) (counted own r.element (counts_at start s)) (counts_at start s) ≡ kept s
        counted_here true e true f =
            let moved_it = sym (state_moves own s r (slot_at states s)) ∙ f in
            (λ i. cond (e i && f i) (counted own r.element (counts_at start s)) (counts_at start s))
            ∙ ap (λ o. cond o (one_more (counts_at start s) r.element) (one_less (counts_at start s) r.element)) (sym (moved_on own s r (slot_at states s) moved_it))
            ∙ recount_moved (had s) (on s) r.element (counts_at start s) moved_it
            ∙ sym (ap (λ b. cond b (recounted (had s) (on s) r.element (counts_at start s)) (counts_at start s)) e)
        counted_here true e false f =
            (λ i. cond (e i && f i) (counted own r.element (counts_at start s)) (counts_at start s))
            ∙ recount_stays (had s) (on s) r.element (counts_at start s) (sym (state_moves own s r (slot_at states s)) ∙ f)
            ∙ sym (ap (λ b. cond b (recounted (had s) (on s) r.element (counts_at start s)) (counts_at start s)) e)
        counted_here false e c f =
            ap (λ b. cond (b && changes s) (counted own r.element (counts_at start s)) (counts_at start s)) e ∙ unlisted s e

        past : (s / 32 ≡ index → ⊥) → counts_at after s ≡ counts_at counts s
        past d = moved s ∙ ap (λ b. cond (b && explicit_in word s) (counted own x (counts_at counts s)) (counts_at counts s)) (ne_eqb (s / 32) index d)

        beside : ((s / 32 < index) ⊎ (index ≤ s / 32)) → (s / 32 ≡ index → ⊥) → ltb (s / 32) index ≡ ltb (s / 32) (index + 1)
        beside (inl e) d = lt-ltb (s / 32) index e ∙ sym (lt-ltb (s / 32) (index + 1) (omega arith))
        beside (inr e) d = le-ltb (s / 32) index e ∙ sym (le-ltb (s / 32) (index + 1) (omega arith))

        at : ((s / 32 ≡ index) ⊎ (s / 32 ≡ index → ⊥)) → counts_at after s ≡ cond (ltb (s / 32) (index + 1)) (kept s) (counts_at start s)
        at (inl e) =
            moved s
            ∙ (λ i. cond (eq-eqb (s / 32) index e i && m.moved s e i) (counted own (sym same i) (still s e i)) (still s e i))
            ∙ counted_here (is_listed numbers s) refl (changes s) refl
            ∙ sym (ap (λ b. cond b (kept s) (counts_at start s)) (lt-ltb (s / 32) (index + 1) (omega arith)))
        at (inr d) = past d ∙ done s ∙ ap (λ b. cond b (kept s) (counts_at start s)) (beside (cases_lt (s / 32) index) d)
