use Rattle.std.proofs.Common.{◌≡◌, ◌++◌, drop}
use Rattle.dg_build.specs.GivenDeltas.{row_to}
use Rattle.dg_build.proofs.row.row_steps.Given as goal

abbrev pub invariant-loop-i : goal.invariant-loop-i
invariant-loop-i l = l.row.items ++ row_to (drop l.i l.older) l.up ≡ row_to l.older l.up
