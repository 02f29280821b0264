use Rattle.std.proofs.Common.{◌≡◌, ◌+◌, drop}
use Rattle.dg_catalogue.specs.Additions.{bytes_of_rows}
use Rattle.dg_segment.proofs.rows_read.is_measured.Given as goal

abbrev pub invariant-loop-row : goal.invariant-loop-row
invariant-loop-row l = bytes_of_rows l.rows + l.left ≡ l.columns + bytes_of_rows (drop l.row-index l.rows)
