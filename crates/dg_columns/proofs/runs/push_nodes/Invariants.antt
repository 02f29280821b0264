use Rattle.std.proofs.Common.{◌≡◌, ◌-◌, ◌+◌, ◌≤◌, [], drop, take, length, None, vec_len, vec_capacity}
use Rattle.dg_graph.specs.declared.element.Column.TheVariants as column
use Rattle.dg_graph.specs.ColumnGrammar.{elements_at}
use Rattle.dg_columns.specs.Runs.{last_node}
use Rattle.dg_columns.proofs.FieldElements.{after_front}
use Rattle.dg_columns.proofs.runs.push_nodes.Given as goal

abbrev pub invariant-loop-read : goal.invariant-loop-read
invariant-loop-read l = record {
  so_far : after_front (drop (length l.fn.items.items) l.items.items) (elements_at (l.count - l.read) column.Structure l.name_count l.bytes [] l.offset (last_node l.last)) ≡ elements_at l.count column.Structure l.name_count l.bytes [] l.start None;
  kept : take (length l.fn.items.items) l.items.items ≡ l.fn.items.items;
  within : l.offset ≤ length l.bytes;
  len : vec_len l.items ≡ length l.fn.items.items + l.read;
  room : length l.fn.items.items + l.count ≤ vec_capacity l.items;
}
