use Rattle.std.proofs.Common.{◌≡◌, ◌≤◌, length, arith}
use Rattle.dg_expr.specs.Expressions.{times_of}
use Rattle.dg_expr.specs.Rests.{placed_word}
use Rattle.dg_expr.proofs.Expressions.{placed_more, placed_all}
use Rattle.dg_expr.proofs.expression.Expr.placed.Goals as goal

pub loop-i-preserved : goal.loop-i-preserved
loop-i-preserved c =
    placed_more (placed_word (times_of c.args.instants.now)) c.args.self.now.words c.loop-i.words c.loop-i.i _ c.placed.result (omega arith) c.loop-i.invariant c.placed.ensures

pub returns-clause-words : goal.returns-clause-words
returns-clause-words c =
    placed_all (placed_word (times_of c.args.instants.now)) c.args.self.now.words c.loop-i.words c.loop-i.i c.args.self.now.count (omega arith) c.loop-i.invariant
