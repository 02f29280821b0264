use Rattle.std.proofs.Common.{◌≡◌, ◌+◌, ◌*◌, ◌≤◌, length, drop}
use Rattle.dg_graph.specs.Columns.{in_column}
use Rattle.dg_columns.proofs.delta_writer.part_of.Given as goal

abbrev pub invariant-loop-element : goal.invariant-loop-element
invariant-loop-element l = record {
  counted : l.count + length (in_column l.col (drop l.element-index l.elements)) ≡ length (in_column l.col l.elements);
  few : l.count ≤ l.element-index;
  size : l.size ≤ 26 * l.element-index;
}
