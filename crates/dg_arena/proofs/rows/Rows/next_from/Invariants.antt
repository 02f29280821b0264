use Rattle.std.proofs.Common.{◌≡◌, ℕ, ◌≤◌, ◌<◌}
use Rattle.std.specs.Prelude.{None}
use Rattle.dg_arena.specs.Cells.{cell_at}
use Rattle.dg_arena.proofs.rows.Rows.next_from.Given as goal

abbrev pub invariant-loop-n : goal.invariant-loop-n
invariant-loop-n g l = (m : ℕ) → l.from ≤ m → m < l.n → cell_at l.self.items m ≡ None
