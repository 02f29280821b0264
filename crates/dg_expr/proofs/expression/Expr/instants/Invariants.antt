use Rattle.std.proofs.Common.{◌≡◌, ◌≤◌, length, take}
use Rattle.dg_expr.specs.Expressions.{distinct, times_in, times_of}
use Rattle.dg_expr.proofs.expression.Expr.instants.Given as goal

abbrev pub invariant-loop-i : goal.invariant-loop-i
invariant-loop-i l = record {
  times : times_of l.instants ≡ distinct (times_in (take l.i l.self.words));
  count : l.instants.count ≤ length (times_in (take l.i l.self.words));
  within : l.i ≤ l.self.count;
}
