use Rattle.std.proofs.Common.{◌≡◌, ◌≤◌, take}
use Rattle.dg_aux.specs.Turns.{additions}
use Rattle.dg_aux.proofs.aux.Aux.spans.Given as goal

abbrev pub invariant-loop-turn : goal.invariant-loop-turn
invariant-loop-turn l = record {
  all : l.spans ≡ additions (take l.turn-index l.self.turns);
  few : l.spans ≤ l.turn-index;
}
