use Rattle.std.proofs.Common.{◌≡◌, ◌+◌, drop}
use Rattle.dg_expr.specs.Rests.{place_of}
use Rattle.dg_expr.proofs.expression.place.Given as goal

abbrev pub invariant-loop-i : goal.invariant-loop-i
invariant-loop-i l = place_of l.t l.times ≡ l.i + place_of l.t (drop l.i l.times)
