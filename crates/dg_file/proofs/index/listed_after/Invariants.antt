use Rattle.std.proofs.Common.{◌≡◌, drop}
use Rattle.dg_file.specs.Invariant.{listed_after}
use Rattle.dg_file.proofs.index.listed_after.Given as goal

abbrev pub invariant-loop-row : goal.invariant-loop-row
invariant-loop-row l = listed_after l.fn.listed l.rows ≡ listed_after l.last (drop l.row-index l.rows)
