use Rattle.std.proofs.Common.{◌≤◌}
use Rattle.dg_cells.specs.Rows.{Reuses}
use Rattle.dg_cells.proofs.RowNumbers.{Numbered}
use Rattle.dg_cells.proofs.OrderWalks.{Walked, Passed}
use Rattle.dg_cells.proofs.cell_merge.merge_numbers.Given as goal

abbrev pub invariant-loop-x : goal.invariant-loop-x
invariant-loop-x l = record {
  walked : Walked l.initial.rows.items l.order l.items l.x-index l.rows.items l.out.items l.taken.items l.i;
  passed : Passed l.initial.rows.items l.order l.items l.x-index l.near;
  on : l.i ≤ l.near;
  reuses : Reuses l.initial.rows.items l.rows.items;
  numbered : Numbered l.rows.items l.items l.x-index l.numbers.items;
}
