use Rattle.std.proofs.Common.{◌≡◌, ℕ, None, cond, take}
use Rattle.dg_cells.specs.Rows.{cell_at}
use Rattle.dg_cells.specs.Order.{is_noted}
use Rattle.dg_cells.proofs.cell_merge.vacate.Given as goal

abbrev pub invariant-loop-n : goal.invariant-loop-n
invariant-loop-n l = (m : ℕ) → cell_at l.rows.items m ≡ cond (is_noted (take l.n-index l.taken) m) None (cell_at l.initial.rows.items m)
