use Rattle.std.proofs.Common.{◌≡◌, ◌≤◌, ◌-◌, take, length}
use Rattle.dg_cells.specs.Pieces.{strung}
use Rattle.dg_cells.proofs.pieces.Pieces.of_numbers.Given as goal

abbrev pub invariant-loop-at : goal.invariant-loop-at
invariant-loop-at l = record {
  so_far : strung l.pieces ≡ take l.at l.numbers;
  within : l.at ≤ length l.numbers;
}

abbrev pub decreases-loop-at : goal.decreases-loop-at
decreases-loop-at l = length l.numbers - l.at
