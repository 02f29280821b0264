use Rattle.std.proofs.Common.{take}
use Rattle.dg_cells.specs.Rows.{CellsGrow, Reuses}
use Rattle.dg_pool.specs.Graphs.{HaveCells}
use Rattle.dg_pool.proofs.room.add_by_all.Given as goal

abbrev pub invariant-loop-event : goal.invariant-loop-event
invariant-loop-event l = record {
  grows : CellsGrow l.initial.cells l.cells;
  there : HaveCells l.cells (take l.event-index l.events);
  reuses : Reuses l.initial.cells l.cells;
}
