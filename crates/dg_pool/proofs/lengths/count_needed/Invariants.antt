use Rattle.std.proofs.Common.{◌≡◌, take}
use Rattle.std.specs.List.{count_by}
use Rattle.dg_pool.specs.Sweeps.{passes_test, is_needed}
use Rattle.dg_pool.proofs.lengths.count_needed.Given as goal

abbrev pub invariant-loop-n : goal.invariant-loop-n
invariant-loop-n l = l.count ≡ count_by (passes_test (is_needed l.slots)) (take l.n l.cells)
