use Rattle.std.proofs.Common.{◌≡◌, ◌++◌, map, length, take, drop}
use Rattle.dg_expr.specs.Rests.{begins, past}
use Rattle.dg_expr.specs.declared.expression.TheConstants.{EXPRESSION_TIMES_MAX}
use Rattle.dg_expr.proofs.selection.skip_all.Given as goal

abbrev pub invariant-loop-i : goal.invariant-loop-i
invariant-loop-i l = record {
  past : l.rests ≡ map (past l.x) (take l.i l.fn.rests) ++ drop l.i l.fn.rests;
  there : take l.i l.there ≡ map (begins l.x) (take l.i l.fn.rests);
  size : length l.there ≡ EXPRESSION_TIMES_MAX;
}
