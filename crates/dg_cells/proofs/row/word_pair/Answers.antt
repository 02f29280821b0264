use Rattle.std.proofs.Common.{arith, ◌≡◌, ◌+◌, ◌*◌, ◌/◌, ◌%◌, ◌∙◌, eqb, get_or, ap}
use Rattle.std.specs.Int.{bit_at}
use Rattle.std.proofs.lemmas.Nat.Bits.{shr_and_one}
use Rattle.dg_cells.proofs.row.word_pair.Goals as goal

pub returns : goal.returns
returns c r is =
    let s = c.args.slot in
    let low = 2 * (s % 32) in
    let p : s / 32 ≡ (2 * s) / 64 = omega arith in
    let q : low ≡ (2 * s) % 64 = omega arith in
    let t : s / 32 ≡ (2 * s + 1) / 64 = omega arith in
    let u : low + 1 ≡ (2 * s + 1) % 64 = omega arith in
    let first = ap (λ k. eqb k 1) (shr_and_one c.args.word low ∙ (λ i. bit_at ((is ∙ ap (λ w. get_or r.bits w 0) p) i) (q i))) in
    let second = ap (λ k. eqb k 1) (shr_and_one c.args.word (low + 1) ∙ (λ i. bit_at ((is ∙ ap (λ w. get_or r.bits w 0) t) i) (u i))) in
    λ i. (first i, second i)
