use Rattle.std.proofs.Common.{length}
use Rattle.dg_text.specs.Words.{words}
use Rattle.dg_expr.proofs.ExpressionTexts.{ReadsOn}
use Rattle.dg_expr.proofs.reading.expression.Given as goal

abbrev pub invariant-loop-word_text : goal.invariant-loop-word_text
invariant-loop-word_text l = ReadsOn (words l.text) l.words l.owing l.texts

abbrev pub decreases-loop-word_text : goal.decreases-loop-word_text
decreases-loop-word_text l = length l.texts
