use Rattle.std.proofs.Common.{arith}
use Rattle.dg_grammar.proofs.Prefixes.{word_stops}
use Rattle.dg_grammar.proofs.grammar.word_prefix.Goals as goal
use Rattle.dg_grammar.proofs.grammar.word_prefix.Goals.{then-loop-bytes-test+then-bytes-rest+else-word-bytes, then-loop-bytes-test+else-bytes-rest, else-loop-bytes-test}

pub returns-clause-longest : goal.returns-clause-longest
returns-clause-longest c =
    word_stops c.args.word.now c.args.rest.now c.loop-bytes.bytes c.loop-bytes.invariant.within c.loop-bytes.invariant.same
    (λ in_word in_rest same. elim c.loop-bytes-test.branch [
      | then-loop-bytes-test+then-bytes-rest+else-word-bytes w ↦ w.if-word-bytes.false same
      | then-loop-bytes-test+else-bytes-rest w ↦ omega arith
      | else-loop-bytes-test w ↦ omega arith
    ])
