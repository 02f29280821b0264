use Rattle.std.proofs.Common.{◌≡◌, ◌++◌, drop, filter}
use Rattle.dg_aux.specs.Turns.{is_told}
use Rattle.dg_aux.proofs.found.push_told.Given as goal

abbrev pub invariant-loop-turn : goal.invariant-loop-turn
invariant-loop-turn l =
    l.told.items ++ filter (is_told l.value l.t) (drop l.turn-index l.turns) ≡ l.fn.told.items ++ filter (is_told l.value l.t) l.turns
