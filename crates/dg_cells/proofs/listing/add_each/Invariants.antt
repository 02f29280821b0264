use Rattle.std.proofs.Common.{take}
use Rattle.dg_cells.specs.Pieces.{strung}
use Rattle.dg_cells.specs.Order.{IsListed}
use Rattle.dg_cells.specs.Rows.{CellsGrow, Reuses, AreAmong}
use Rattle.dg_cells.proofs.RowNumbers.{Numbered}
use Rattle.dg_cells.proofs.listing.add_each.Given as goal

abbrev pub invariant-loop-x : goal.invariant-loop-x
invariant-loop-x l = record {
  listed : IsListed l.rows.items (strung l.order);
  grows : CellsGrow l.initial.rows.items l.rows.items;
  reuses : Reuses l.initial.rows.items l.rows.items;
  numbered : Numbered l.rows.items l.items l.x-index l.numbers.items;
  among : AreAmong l.initial.rows.items l.rows.items (take l.x-index l.items);
}
