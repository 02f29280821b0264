use Rattle.std.proofs.Common.{Bool, ◌+◌, eqb, sym, ap, ◌∙◌, arith}
use Rattle.std.specs.Int.{bit_at}
use Rattle.dg_pool.specs.Changes.{moves}
use Rattle.dg_pool.proofs.MovedSlots.{got_word, lost_word}
use Rattle.dg_pool.proofs.targets.moved_word.Goals as goal

pub returns-then-own : goal.returns-then-own
returns-then-own c = λ i h.
    got_word c.args.bits c.args.base c.args.asking (omega arith) (omega arith) i h
    ∙ ap (λ (o : Bool). moves o (eqb (bit_at c.args.bits i) 1) (eqb (bit_at c.args.bits (i + 1)) 1) (eqb (bit_at c.args.base i) 1) (eqb (bit_at c.args.asking i) 1)) (sym c.if-own.true)

pub returns-else-own : goal.returns-else-own
returns-else-own c = λ i h.
    lost_word c.args.bits c.args.base c.args.asking (omega arith) (omega arith) i h
    ∙ ap (λ (o : Bool). moves o (eqb (bit_at c.args.bits i) 1) (eqb (bit_at c.args.bits (i + 1)) 1) (eqb (bit_at c.args.base i) 1) (eqb (bit_at c.args.asking i) 1)) (sym c.if-own.false)
