use Rattle.std.proofs.Common.{◌≡◌, ◌-◌, ◌+◌, ◌≤◌, [], drop, take, length, vec_len, vec_capacity}
use Rattle.dg_graph.specs.declared.element.Column.TheVariants as column
use Rattle.dg_graph.specs.ColumnGrammar.{elements_at}
use Rattle.dg_columns.specs.Runs.{last_node, last_edge}
use Rattle.dg_columns.proofs.FieldElements.{after_front}
use Rattle.dg_columns.proofs.runs.push_edges.Given as goal

abbrev pub invariant-loop : goal.invariant-loop
invariant-loop l = record {
  so_far : after_front (drop (length l.fn.items.items) l.items.items) (elements_at (l.count - l.counter) column.Structure l.name_count l.bytes [] l.offset (last_edge l.node l.last)) ≡ elements_at l.count column.Structure l.name_count l.bytes [] l.start (last_node l.node);
  kept : take (length l.fn.items.items) l.items.items ≡ l.fn.items.items;
  within : l.offset ≤ length l.bytes;
  len : vec_len l.items ≡ length l.fn.items.items + l.counter;
  room : length l.fn.items.items + l.count ≤ vec_capacity l.items;
}
