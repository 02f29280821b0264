use Rattle.std.proofs.Common.{◌≡◌, Some, take}
use Rattle.dg_cells.specs.Rows.{Row, cell_at}
use Rattle.dg_pool.specs.Changes.{IsMarked, base_has, numbers_of}
use Rattle.dg_pool.proofs.targets.bases_each.Given as goal

abbrev pub invariant-loop-slot : goal.invariant-loop-slot
invariant-loop-slot l = (r : Row) → cell_at l.cells l.n ≡ Some r → IsMarked (base_has r) l.states (numbers_of (take l.slot-index l.slots)) l.mask
