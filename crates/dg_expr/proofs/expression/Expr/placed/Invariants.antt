use Rattle.std.proofs.Common.{◌≡◌, ◌++◌, map, take, drop}
use Rattle.dg_expr.specs.Expressions.{times_of}
use Rattle.dg_expr.specs.Rests.{placed_word}
use Rattle.dg_expr.proofs.expression.Expr.placed.Given as goal

abbrev pub invariant-loop-i : goal.invariant-loop-i
invariant-loop-i l = l.words ≡ map (placed_word (times_of l.instants)) (take l.i l.self.words) ++ drop l.i l.self.words
