use Rattle.std.proofs.Common.{take}
use Rattle.dg_expr.specs.Rests.{IsLeast}
use Rattle.dg_expr.proofs.selection.least.Given as goal

abbrev pub invariant-loop-rest : goal.invariant-loop-rest
invariant-loop-rest l = IsLeast l.least (take l.rest-index l.rests)
