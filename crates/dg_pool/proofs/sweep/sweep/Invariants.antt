use Rattle.std.proofs.Common.{◌≡◌, ◌+◌, ◌-◌, ◌≤◌, length}
use Rattle.dg_pool.specs.Sweeps.{CellsSwept, cells_below}
use Rattle.dg_pool.proofs.sweep.sweep.Given as goal

abbrev pub invariant-loop-n : goal.invariant-loop-n
invariant-loop-n l = record {
  swept : CellsSwept l.slots l.initial.cells l.cells l.from l.n;
  len : length l.cells ≡ length l.initial.cells;
  low : l.from ≤ l.n;
  count : cells_below l.initial.cells l.n + l.left ≡ cells_below l.initial.cells l.from + l.count;
}

abbrev pub decreases-loop-n : goal.decreases-loop-n
decreases-loop-n l = length l.cells - l.n
