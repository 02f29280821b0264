use Rattle.std.proofs.Common.{◌≡◌, ◌≤◌}
use Rattle.dg_cells.proofs.RowNumbers.{Numbered}
use Rattle.dg_cells.proofs.listing.find_each.Given as goal

abbrev pub invariant-loop-x : goal.invariant-loop-x
invariant-loop-x l = record {
  few : l.lacking ≤ l.x-index;
  numbered : l.lacking ≡ 0 → Numbered l.rows.items l.items l.x-index l.numbers.items;
}
