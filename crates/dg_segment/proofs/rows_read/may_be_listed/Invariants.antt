use Rattle.std.proofs.Common.{◌≡◌, drop}
use Rattle.dg_index.specs.OpenedIndex.{may_be_listed}
use Rattle.dg_segment.proofs.rows_read.may_be_listed.Given as goal

abbrev pub invariant-loop-row : goal.invariant-loop-row
invariant-loop-row l = may_be_listed l.first l.last l.rows ≡ may_be_listed l.floor l.last (drop l.row-index l.rows)
