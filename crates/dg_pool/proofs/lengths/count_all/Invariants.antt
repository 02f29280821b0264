use Rattle.std.proofs.Common.{◌≡◌, true, take}
use Rattle.std.specs.List.{count_by}
use Rattle.dg_cells.specs.Rows.{Row}
use Rattle.dg_pool.specs.Sweeps.{passes_test}
use Rattle.dg_pool.proofs.lengths.count_all.Given as goal

abbrev pub invariant-loop-n : goal.invariant-loop-n
invariant-loop-n l = l.count ≡ count_by (passes_test (λ (r : Row). true)) (take l.n l.cells)
