use Rattle.std.proofs.Common.{arith, sym}
use Rattle.dg_grammar.proofs.WordNumbers.{number_within, number_outside, no_number}
use Rattle.dg_grammar.proofs.words.number.Goals as goal
use Rattle.dg_grammar.proofs.words.number.Goals.{else-low-value-via-then-low-value+else-value-high, else-low-value-via-else-low-value}

pub returns-in-None-clause-number : goal.returns-in-None-clause-number
returns-in-None-clause-number c =
    sym (no_number c.args.low c.args.high c.args.word.now (omega arith) c.in-None.ensures.none)

pub returns-then-value-high-clause-number : goal.returns-then-value-high-clause-number
returns-then-value-high-clause-number c =
    sym (number_within c.args.low c.args.high c.in-Some.found c.args.word.now (omega arith) c.in-Some.ensures.some
    (omega arith) (omega arith))

pub returns-else-low-value-clause-number : goal.returns-else-low-value-clause-number
returns-else-low-value-clause-number c =
    sym (number_outside c.args.low c.args.high c.in-Some.found c.args.word.now c.in-Some.ensures.fits c.in-Some.ensures.some
    (elim c.else-low-value.branch [
      | else-low-value-via-then-low-value+else-value-high w ↦ λ above below. omega arith
      | else-low-value-via-else-low-value w ↦ λ above below. omega arith
    ]))
