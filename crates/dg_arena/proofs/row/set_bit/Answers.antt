use Rattle.std.proofs.Common.{◌/◌, ◌%◌, ◌^◌, ◌*◌, ◌-◌, get_or, ap, ◌∙◌, sym, eqb, w64, arith}
use Rattle.std.specs.Prelude.{bit_and, bit_or}
use Rattle.std.proofs.lemmas.Nat.Bits.{bit_at_set_same, bit_at_set_other, bit_at_clear_same, bit_at_clear_other}
use Rattle.dg_arena.proofs.Bits.{written}
use Rattle.dg_arena.proofs.row.set_bit.Goals as goal

pub returns-then-on-clause-bits : goal.returns-then-on-clause-bits
returns-then-on-clause-bits g c =
    let bs = c.args.row.now.bits in
    let k = c.args.bit % 64 in
    let old = get_or bs (c.args.bit / 64) 0 in
    let v = bit_or old (1 * 2 ^ k % 18446744073709551616) in
    written bs c.args.bit v c.args.on (omega arith)
    (ap (λ n. eqb n 1) (bit_at_set_same w64 old k (omega arith)) ∙ sym c.if-on.true)
    (λ i h d. bit_at_set_other w64 old k (omega arith) i d)

pub returns-else-on-clause-bits : goal.returns-else-on-clause-bits
returns-else-on-clause-bits g c =
    let bs = c.args.row.now.bits in
    let k = c.args.bit % 64 in
    let old = get_or bs (c.args.bit / 64) 0 in
    let v = bit_and old (18446744073709551615 - 1 * 2 ^ k % 18446744073709551616) in
    written bs c.args.bit v c.args.on (omega arith)
    (ap (λ n. eqb n 1) (bit_at_clear_same w64 old k (omega arith)) ∙ sym c.if-on.false)
    (λ i h d. bit_at_clear_other w64 old k (omega arith) i h d)
