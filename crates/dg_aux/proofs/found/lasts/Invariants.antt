use Rattle.std.proofs.Common.{◌≡◌, ◌++◌, drop}
use Rattle.dg_aux.specs.Turns.{lasts}
use Rattle.dg_aux.proofs.found.lasts.Given as goal

abbrev pub invariant-loop-index : goal.invariant-loop-index
invariant-loop-index l = l.ids.items ++ lasts (drop l.index l.turns) ≡ lasts l.turns
