use Rattle.std.proofs.Common.{◌≡◌, ◌++◌, drop}
use Rattle.std.specs.List.{flat_map}
use Rattle.dg_graph.specs.Columns.{element_bytes, in_column}
use Rattle.dg_columns.proofs.delta_writer.write_elements.Given as goal

abbrev pub invariant-loop-element : goal.invariant-loop-element
invariant-loop-element l = l.out.items ++ flat_map element_bytes (in_column l.col (drop l.element-index l.elements)) ≡ l.fn.out.items ++ flat_map element_bytes (in_column l.col l.elements)
