use Rattle.std.proofs.Common.{◌≡◌, ◌-◌, ◌≤◌, length, vec_len, vec_capacity}
use Rattle.dg_graph.specs.declared.element.Column.TheVariants as column
use Rattle.dg_graph.specs.ColumnGrammar.{events_at}
use Rattle.dg_columns.proofs.FieldEvents.{with_front}
use Rattle.dg_columns.proofs.event_reader.structure_from.Given as goal

abbrev pub invariant-loop : goal.invariant-loop
invariant-loop l = record {
  so_far : with_front l.placed.items (events_at (l.count - l.counter) column.Structure l.name_count l.bytes l.offset l.low l.earliest) ≡ events_at l.count column.Structure l.name_count l.bytes 4 0 0;
  within : l.offset ≤ length l.bytes;
  len : vec_len l.placed ≡ l.counter;
  room : l.count ≤ vec_capacity l.placed;
}
