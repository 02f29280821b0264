use Rattle.std.proofs.Common.{◌≡◌, ◌<◌, ◌+◌, ℕ, ◌/◌, ◌*◌, ◌^◌, ◌&&◌, get_or, true, false, arith, ◌⊎◌, inl, inr}
use Rattle.std.specs.Prelude.{bit_and}
use Rattle.std.proofs.lemmas.Bool.{cases_eq}
use Rattle.std.proofs.lemmas.Nat.{and_le_r}
use Rattle.dg_cells.specs.Rows.{pair, word_bit}
use Rattle.dg_pool.proofs.MaskBits.{not_both, both_at}
use Rattle.dg_pool.proofs.masks.meets.Goals as goal

pub returns-then-bits-mask-ne0-clause-some : goal.returns-then-bits-mask-ne0-clause-some
returns-then-bits-mask-ne0-clause-some c = λ _.
    let w = c.loop-word.word in
    let bits : ℕ = get_or c.args.row.now.bits w 0 in
    let fits : get_or c.args.mask.now w 0 < 18446744073709551616 = omega arith in
    let small = and_le_r (bit_and bits (bits / 2 ^ 1)) (get_or c.args.mask.now w 0) in
    both_at c.args.row.now c.args.mask.now c.loop-word.word c.if-bits-mask-ne0.true (omega arith) c.loop-word-test.true c.requires

pub loop-word-preserved : goal.loop-word-preserved
loop-word-preserved c = λ s h there. at s h there (cases_eq (s / 32) c.loop-word.word)
  where
    at : (s : ℕ) → s / 32 < c.loop-word.word + 1 → word_bit c.args.mask.now (2 * s) ≡ true → ((s / 32 ≡ c.loop-word.word) ⊎ (s / 32 ≡ c.loop-word.word → ⊥)) → ((pair s c.args.row.now).0 && (pair s c.args.row.now).1) ≡ false
    at s h there (inl e) = not_both c.args.row.now c.args.mask.now c.loop-word.word s e c.if-bits-mask-ne0.false there
    at s h there (inr d) = c.loop-word.invariant s (omega arith) there
