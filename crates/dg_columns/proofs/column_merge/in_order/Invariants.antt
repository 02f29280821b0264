use Rattle.std.proofs.Common.{◌≡◌, drop}
use Rattle.std.specs.Option.{option_and_then}
use Rattle.dg_graph.specs.ColumnMerge.{if_never_fall}
use Rattle.dg_columns.specs.Rows.{events_in_row}
use Rattle.dg_columns.proofs.Rows.{onward}
use Rattle.dg_columns.proofs.column_merge.in_order.Given as goal

abbrev pub invariant-loop-slot : goal.invariant-loop-slot
invariant-loop-slot l = onward l.events.items l.earliest (drop l.slot-index l.row) ≡ option_and_then if_never_fall (events_in_row l.row)
