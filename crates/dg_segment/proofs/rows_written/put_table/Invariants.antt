use Rattle.std.proofs.Common.{◌≡◌, ◌++◌, length, drop}
use Rattle.std.specs.List.{flat_map}
use Rattle.dg_graph.specs.Columns.{four}
use Rattle.dg_segment.specs.RowTexts.{row_text}
use Rattle.dg_segment.proofs.rows_written.put_table.Given as goal

abbrev pub invariant-loop-row : goal.invariant-loop-row
invariant-loop-row l = l.into.items ++ flat_map (row_text l.wide) (drop l.row-index l.rows) ≡ (l.fn.into.items ++ four (length l.rows)) ++ flat_map (row_text l.wide) l.rows
