use Rattle.std.proofs.Common.{◌≡◌, ℕ, ◌*◌, ◌+◌, cond, eqb, refl, sym, ap, ◌∙◌, arith, ◌⊎◌, inl, inr, Bool}
use Rattle.std.proofs.lemmas.Bool.{cases_eq, eq-eqb, ne_eqb}
use Rattle.dg_cells.specs.Rows.{Row, has_bit, pair}
use Rattle.dg_cells.proofs.row.set_pair.Goals as goal

module _ (old mid new : Row) (s : ℕ) (explicit own : Bool) (first : (c : ℕ) → has_bit mid c ≡ cond (eqb c (2 * s)) explicit (has_bit old c)) (second : (c : ℕ) → has_bit new c ≡ cond (eqb c (2 * s + 1)) own (has_bit mid c)) where
  -- a bit that is neither
  other : (c : ℕ) → (c ≡ 2 * s → ⊥) → (c ≡ 2 * s + 1 → ⊥) → has_bit new c ≡ has_bit old c
  other c d e =
      second c ∙ ap (λ t. cond t own (has_bit mid c)) (ne_eqb c (2 * s + 1) e)
      ∙ first c ∙ ap (λ t. cond t explicit (has_bit old c)) (ne_eqb c (2 * s) d)

  low : has_bit new (2 * s) ≡ explicit
  low =
      second (2 * s) ∙ ap (λ t. cond t own (has_bit mid (2 * s))) (ne_eqb (2 * s) (2 * s + 1) (λ e. omega arith))
      ∙ first (2 * s) ∙ ap (λ t. cond t explicit (has_bit old (2 * s))) (eq-eqb (2 * s) (2 * s) refl)

  high : has_bit new (2 * s + 1) ≡ own
  high = second (2 * s + 1) ∙ ap (λ t. cond t own (has_bit mid (2 * s + 1))) (eq-eqb (2 * s + 1) (2 * s + 1) refl)

  pairs_by : (u : ℕ) → ((u ≡ s) ⊎ (u ≡ s → ⊥)) → pair u new ≡ cond (eqb u s) (explicit, own) (pair u old)
  pairs_by u (inl e) =
      ap (λ n. pair n new) e ∙ (λ i. (low i, high i)) ∙ ap (λ t. cond t (explicit, own) (pair u old)) (sym (eq-eqb u s e))
  pairs_by u (inr d) =
      let a = other (2 * u) (λ e. d (omega arith)) (λ e. omega arith) in
      let b = other (2 * u + 1) (λ e. omega arith) (λ e. d (omega arith)) in
      (λ i. (a i, b i)) ∙ ap (λ t. cond t (explicit, own) (pair u old)) (sym (ne_eqb u s d))

pub returns : goal.returns
returns c =
    let old = c.args.row.now in
    let mid = c.set_bit.new.row in
    let new = c.set_bit-2.new.row in
    let s = c.args.slot in
    record {
      element = c.set_bit-2.ensures.element ∙ c.set_bit.ensures.element;
      current = other old mid new s c.args.explicit c.args.own c.set_bit.ensures.bits c.set_bit-2.ensures.bits 0 (λ e. omega arith) (λ e. omega arith);
      pairs = λ u h. pairs_by old mid new s c.args.explicit c.args.own c.set_bit.ensures.bits c.set_bit-2.ensures.bits u (cases_eq u s);
    }
