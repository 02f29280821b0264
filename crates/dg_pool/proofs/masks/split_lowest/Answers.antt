use Rattle.std.specs.Int.{bit_at}
use Rattle.std.specs.Prelude.{bit_and}
use lib.Count.{count_trailing_zeros}
use Rattle.std.proofs.Common.{arith, w64, ◌≡◌, ℕ, ◌*◌, ◌-◌, ◌%◌, ◌^◌, ◌<◌, sym, ap, ◌∙◌, ◌⊎◌, inl, inr}
use Rattle.std.proofs.lemmas.Bool.{cases_eq}
use Rattle.std.proofs.lemmas.Nat.{and_le_l}
use Rattle.std.proofs.lemmas.Nat.Bits.{bit_at-trailing_zeros, bit_at_clear_same, bit_at_clear_other}
use Rattle.dg_pool.proofs.masks.split_lowest.Goals as goal

abbrev lowest : ℕ → ℕ
lowest word = count_trailing_zeros 64 word

abbrev without : ℕ → ℕ
without word = bit_and word (18446744073709551615 - 1 * 2 ^ lowest word % 18446744073709551616)

cleared_less : (word : ℕ) → 0 < word → word < 2 ^ 64 → without word < word
cleared_less word some fits = at (cases_eq (without word) word)
  where
    at : ((without word ≡ word) ⊎ (without word ≡ word → ⊥)) → without word < word
    at (inl e) =
        let low = bit_at-trailing_zeros w64 word some fits in
        let no : 0 ≡ 1 = sym (bit_at_clear_same w64 word (lowest word) low.0) ∙ ap (λ n. bit_at n (lowest word)) e ∙ low.1 in
        absurd (omega (arith, no))
    at (inr d) = let most = and_le_l word (18446744073709551615 - 1 * 2 ^ lowest word % 18446744073709551616) in omega (arith, most, d)

pub returns-clause-set : goal.returns-clause-set
returns-clause-set c = (bit_at-trailing_zeros w64 c.args.word c.requires (omega arith)).1

pub returns-clause-off : goal.returns-clause-off
returns-clause-off c = bit_at_clear_same w64 c.args.word (lowest c.args.word) (bit_at-trailing_zeros w64 c.args.word c.requires (omega arith)).0

pub returns-clause-others : goal.returns-clause-others
returns-clause-others c = λ i h d. bit_at_clear_other w64 c.args.word (lowest c.args.word) (bit_at-trailing_zeros w64 c.args.word c.requires (omega arith)).0 i h d

pub returns-clause-less : goal.returns-clause-less
returns-clause-less c = cleared_less c.args.word c.requires (omega arith)
