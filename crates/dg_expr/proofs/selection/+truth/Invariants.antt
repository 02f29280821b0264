use Rattle.std.proofs.Common.{length}
use Rattle.dg_expr.proofs.selection.+truth.Given as goal

abbrev pub decreases-truth : goal.decreases-truth
decreases-truth l = length l.words.now
