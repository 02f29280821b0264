use Rattle.std.proofs.Common.{◌≡◌, ◌+◌, ◌*◌, ◌≤◌, length}
use Rattle.dg_graph.specs.Columns.{placed_in}
use Rattle.dg_columns.proofs.ColumnWrites.{placed_after}
use Rattle.dg_columns.proofs.event_writer.measured.Given as goal

abbrev pub invariant-loop-event : goal.invariant-loop-event
invariant-loop-event l = record {
  counted : l.count + length (placed_after l.col l.event-index l.events) ≡ length (placed_in l.col l.events);
  few : l.count ≤ l.event-index;
  size : l.size ≤ 36 * l.event-index;
}
