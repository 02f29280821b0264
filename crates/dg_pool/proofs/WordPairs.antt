-- The pairs of slots that are written word by word.
use Rattle.std.specs.Int.{bit_at}
use Rattle.std.proofs.Common.{arith, ◌≡◌, ℕ, ◌+◌, ◌*◌, ◌/◌, ◌%◌, ◌<◌, ◌≤◌, Bool, true, false, cond, eqb, ltb, not, ◌||◌, ◌&&◌, List, Option, Some, None, IsSome, set, refl, sym, ap, ◌∙◌, subst, ◌⊎◌, inl, inr}
use Rattle.std.proofs.lemmas.Bool.{cases_eq, cases_lt, eq-eqb, ne_eqb, lt-ltb, le-ltb}
use Rattle.std.proofs.lemmas.List.{set-get_or}
use Rattle.dg_cells.specs.Rows.{Row, cell_at, has_bit, pair, is_current, Writes, WritesWord}
use Rattle.dg_pool.specs.Graphs.{is_listed}
use Rattle.dg_pool.specs.Changes.{AreWithin, IsPairWord, SetsPairs}
use Rattle.dg_pool.proofs.CurrentGraph.{writes_join, writes_before}

-- the slots that have their bits in words below this one have their pairs, and all else is as it was
pub record SetsPairsBelow (below : ℕ) (numbers : List ℕ) (p : Bool × Bool) (old new : Row) : Type 0 where
  pub element : new.element ≡ old.element
  pub current : is_current new ≡ is_current old
  pub pairs : (s : ℕ) → 1 ≤ s → pair s new ≡ cond (ltb (s / 32) below && is_listed numbers s) p (pair s old)

set_by : (t x : Bool) → (t || (x && not t)) ≡ cond t true x
set_by true x = refl
set_by false true = refl
set_by false false = refl

own_by : (t o x : Bool) → ((t && o) || (x && not (t && true))) ≡ cond t o x
own_by true true x = refl
own_by true false true = refl
own_by true false false = refl
own_by false o true = refl
own_by false o false = refl

both_of : (t x y o : Bool) → ◌≡◌ {A = Bool × Bool} (cond t true x, cond t o y) (cond t (true, o) (x, y))
both_of true x y o = refl
both_of false x y o = refl

-- ---- one word

module _ (numbers : List ℕ) (o : Bool) (index on off : ℕ) (a : IsPairWord numbers o index on) (b : IsPairWord numbers true index off) (old new : Row) (w : WritesWord index on off old new) where
  here : (s c : ℕ) → c / 64 ≡ index → has_bit new c ≡ (eqb (bit_at on (c % 64)) 1 || (has_bit old c && not (eqb (bit_at off (c % 64)) 1)))
  here s c e = w.bits c ∙ ap (λ t. cond t (eqb (bit_at on (c % 64)) 1 || (has_bit old c && not (eqb (bit_at off (c % 64)) 1))) (has_bit old c)) (eq-eqb (c / 64) index e)

  past : (c : ℕ) → (c / 64 ≡ index → ⊥) → has_bit new c ≡ has_bit old c
  past c d = w.bits c ∙ ap (λ t. cond t (eqb (bit_at on (c % 64)) 1 || (has_bit old c && not (eqb (bit_at off (c % 64)) 1))) (has_bit old c)) (ne_eqb (c / 64) index d)

  explicit_here : (s : ℕ) → s / 32 ≡ index → has_bit new (2 * s) ≡ cond (is_listed numbers s) true (has_bit old (2 * s))
  explicit_here s e =
      let q : (2 * s) % 64 ≡ 2 * (s % 32) = omega arith in
      here s (2 * s) (omega arith)
      ∙ (λ i. (ap (λ n. eqb (bit_at on n) 1) q ∙ a.explicit s e) i || (has_bit old (2 * s) && not ((ap (λ n. eqb (bit_at off n) 1) q ∙ b.explicit s e) i)))
      ∙ set_by (is_listed numbers s) (has_bit old (2 * s))

  own_here : (s : ℕ) → s / 32 ≡ index → has_bit new (2 * s + 1) ≡ cond (is_listed numbers s) o (has_bit old (2 * s + 1))
  own_here s e =
      let q : (2 * s + 1) % 64 ≡ 2 * (s % 32) + 1 = omega arith in
      here s (2 * s + 1) (omega arith)
      ∙ (λ i. (ap (λ n. eqb (bit_at on n) 1) q ∙ a.own s e) i || (has_bit old (2 * s + 1) && not ((ap (λ n. eqb (bit_at off n) 1) q ∙ b.own s e) i)))
      ∙ own_by (is_listed numbers s) o (has_bit old (2 * s + 1))

  pub pair_here : (s : ℕ) → s / 32 ≡ index → pair s new ≡ cond (is_listed numbers s) (true, o) (pair s old)
  pair_here s e = (λ i. (explicit_here s e i, own_here s e i)) ∙ both_of (is_listed numbers s) (has_bit old (2 * s)) (has_bit old (2 * s + 1)) o

  pub pair_past : (s : ℕ) → (s / 32 ≡ index → ⊥) → pair s new ≡ pair s old
  pair_past s d = λ i. (past (2 * s) (λ e. d (omega arith)) i, past (2 * s + 1) (λ e. d (omega arith)) i)

  -- no slot has the number 0, whose explicit bit is that of the current graph
  pub current_stays : is_listed numbers 0 ≡ false → is_current new ≡ is_current old
  current_stays none = at (cases_eq 0 index)
    where
      at : ((0 ≡ index) ⊎ (0 ≡ index → ⊥)) → has_bit new 0 ≡ has_bit old 0
      at (inl e) = explicit_here 0 e ∙ ap (λ t. cond t true (has_bit old 0)) none
      at (inr d) = past 0 d

-- ---- one word after another

module _ (numbers : List ℕ) (o : Bool) (none : is_listed numbers 0 ≡ false) where
  module _ (first until : ℕ) (within : AreWithin numbers first until) where
    unlisted : (s : ℕ) → ((s / 32 < first) ⊎ (until ≤ s / 32)) → is_listed numbers s ≡ false
    unlisted s outside = at (is_listed numbers s) refl outside
      where
        at : (t : Bool) → is_listed numbers s ≡ t → ((s / 32 < first) ⊎ (until ≤ s / 32)) → is_listed numbers s ≡ false
        at true e (inl low) = let w = within.words s e in absurd (omega (arith, w.0))
        at true e (inr high) = let w = within.words s e in absurd (omega (arith, w.1))
        at false e _ = e

    pub pairs_first : (row : Row) → SetsPairsBelow first numbers (true, o) row row
    pairs_first row = record { element = refl; current = refl; pairs = λ s one. at s (cases_lt (s / 32) first) }
      where
        at : (s : ℕ) → ((s / 32 < first) ⊎ (first ≤ s / 32)) → pair s row ≡ cond (ltb (s / 32) first && is_listed numbers s) (true, o) (pair s row)
        at s (inl e) = sym (ap (λ t. cond t (true, o) (pair s row)) (λ i. lt-ltb (s / 32) first e i && unlisted s (inl e) i))
        at s (inr e) = sym (ap (λ t. cond (t && is_listed numbers s) (true, o) (pair s row)) (le-ltb (s / 32) first e))

    pub pairs_last : (below : ℕ) → until ≤ below → (old new : Row) → SetsPairsBelow below numbers (true, o) old new → SetsPairs numbers (true, o) old new
    pairs_last below high old new w = record { element = w.element; current = w.current; pairs = λ s one. w.pairs s one ∙ at s (cases_lt (s / 32) below) }
      where
        at : (s : ℕ) → ((s / 32 < below) ⊎ (below ≤ s / 32)) → cond (ltb (s / 32) below && is_listed numbers s) (true, o) (pair s old) ≡ cond (is_listed numbers s) (true, o) (pair s old)
        at s (inl e) = ap (λ t. cond (t && is_listed numbers s) (true, o) (pair s old)) (lt-ltb (s / 32) below e)
        at s (inr e) =
            ap (λ t. cond (t && is_listed numbers s) (true, o) (pair s old)) (le-ltb (s / 32) below e)
            ∙ sym (ap (λ t. cond t (true, o) (pair s old)) (unlisted s (inr (omega arith))))

  module _ (index on off : ℕ) (a : IsPairWord numbers o index on) (b : IsPairWord numbers true index off) where
    pub pairs_next : (old middle new : Row) → SetsPairsBelow index numbers (true, o) old middle → WritesWord index on off middle new → SetsPairsBelow (index + 1) numbers (true, o) old new
    pairs_next old middle new p w = record {
      element = w.element ∙ p.element;
      current = current_stays numbers o index on off a b middle new w none ∙ p.current;
      pairs = λ s one. at s one (cases_eq (s / 32) index);
    }
      where
        beside : (s : ℕ) → ((s / 32 < index) ⊎ (index ≤ s / 32)) → (s / 32 ≡ index → ⊥) → ltb (s / 32) index ≡ ltb (s / 32) (index + 1)
        beside s (inl e) d = lt-ltb (s / 32) index e ∙ sym (lt-ltb (s / 32) (index + 1) (omega arith))
        beside s (inr e) d = le-ltb (s / 32) index e ∙ sym (le-ltb (s / 32) (index + 1) (omega arith))

        at : (s : ℕ) → 1 ≤ s → ((s / 32 ≡ index) ⊎ (s / 32 ≡ index → ⊥)) → pair s new ≡ cond (ltb (s / 32) (index + 1) && is_listed numbers s) (true, o) (pair s old)
        at s one (inl e) =
            pair_here numbers o index on off a b middle new w s e
            ∙ ap (cond (is_listed numbers s) (true, o)) (p.pairs s one ∙ ap (λ t. cond (t && is_listed numbers s) (true, o) (pair s old)) (le-ltb (s / 32) index (omega arith)))
            ∙ sym (ap (λ t. cond (t && is_listed numbers s) (true, o) (pair s old)) (lt-ltb (s / 32) (index + 1) (omega arith)))
        at s one (inr d) =
            pair_past numbers o index on off a b middle new w s d ∙ p.pairs s one
            ∙ ap (λ t. cond (t && is_listed numbers s) (true, o) (pair s old)) (beside s (cases_lt (s / 32) index) d)

    pub writes_next : (old middle new : List (Option Row)) (n : ℕ) → Writes old middle n (SetsPairsBelow index numbers (true, o)) → Writes middle new n (WritesWord index on off) → Writes old new n (SetsPairsBelow (index + 1) numbers (true, o))
    writes_next old middle new n p w =
        writes_join old middle new n (SetsPairsBelow index numbers (true, o)) (WritesWord index on off) (SetsPairsBelow (index + 1) numbers (true, o)) p w (pairs_next p.before p.after w.after p.how)

-- the cell that is written next is there
pub still_there : (old new : List (Option Row)) (n : ℕ) (How : Row → Row → Type 0) → Writes old new n How → IsSome (cell_at new n)
still_there old new n How w = subst IsSome (sym (writes_before old new n How w)) refl

-- nothing is written yet
pub writes_none : (How : Row → Row → Type 0) (rows : List (Option Row)) (n : ℕ) → IsSome (cell_at rows n) → ((r : Row) → How r r) → Writes rows rows n How
writes_none How rows n there how =
    let row = row_in (cell_at rows n) there in
    record { before = row.0; after = row.0; was = row.1; is = sym (ap (set rows n) (sym row.1) ∙ set-get_or rows n None); how = how row.0 }
  where
    row_in : (o : Option Row) → IsSome o → (r : Row) × (o ≡ Some r)
    row_in None e = cc
    row_in (Some r) e = (r, refl)
