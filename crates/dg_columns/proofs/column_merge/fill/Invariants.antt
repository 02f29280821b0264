use Rattle.std.proofs.Common.{◌≡◌, drop}
use Rattle.dg_columns.specs.Rows.{filled}
use Rattle.dg_columns.proofs.column_merge.fill.Given as goal

abbrev pub invariant-loop-event : goal.invariant-loop-event
invariant-loop-event l = filled 0 l.row (drop l.event-index l.placed) ≡ filled 0 l.fn.row l.placed
