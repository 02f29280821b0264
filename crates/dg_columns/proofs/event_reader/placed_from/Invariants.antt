use Rattle.std.proofs.Common.{◌≡◌, ◌-◌, ◌≤◌, length}
use Rattle.dg_graph.specs.ColumnGrammar.{events_at}
use Rattle.dg_columns.proofs.FieldEvents.{with_front}
use Rattle.dg_columns.proofs.event_reader.placed_from.Given as goal

abbrev pub invariant-loop : goal.invariant-loop
invariant-loop l = record {
  so_far : with_front l.placed.items (events_at (l.count - l.counter) l.col l.name_count l.bytes l.offset l.low l.earliest) ≡ events_at l.count l.col l.name_count l.bytes 4 0 0;
  within : l.offset ≤ length l.bytes;
}
