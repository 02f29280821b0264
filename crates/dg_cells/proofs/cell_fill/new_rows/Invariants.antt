use Rattle.std.proofs.Common.{◌≡◌, ◌≤◌, ◌+◌, length, take}
use Rattle.dg_cells.specs.Rows.{new_rows}
use Rattle.dg_cells.proofs.cell_fill.new_rows.Given as goal

abbrev pub invariant-loop-x : goal.invariant-loop-x
invariant-loop-x l = record {
  rows : l.rows.items ≡ new_rows l.current (take l.x-index l.items);
  next : l.rows.vacancy ≡ length l.rows.items;
  room : length l.items ≤ l.rows.spare + l.x-index;
}
