use Rattle.std.proofs.Common.{◌≡◌, drop}
use Rattle.dg_graph.specs.Replay.{replay_from}
use Rattle.dg_cells.specs.Rows.{is_current}
use Rattle.dg_pool.specs.Graphs.{Keeps, HaveCells, picked}
use Rattle.dg_query.specs.Queries.{counts_of}
use Rattle.dg_pool.proofs.current.pass_all.Given as goal

abbrev pub invariant-loop-event : goal.invariant-loop-event
invariant-loop-event l = record {
  kept : Keeps l.slots l.initial.cells l.cells;
  now : replay_from (picked is_current l.cells) (drop l.event-index l.events) ≡ replay_from (picked is_current l.initial.cells) l.events;
  counted : l.passed ≡ counts_of (picked is_current l.cells);
  there : HaveCells l.cells (drop l.event-index l.events);
}
