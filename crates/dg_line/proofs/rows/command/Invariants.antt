use Rattle.std.proofs.Common.{◌≡◌, drop}
use Rattle.dg_line.specs.Table.{first_command}
use Rattle.dg_text.specs.Words.{words}
use Rattle.dg_line.proofs.rows.command.Given as goal

abbrev pub invariant-loop-row : goal.invariant-loop-row
invariant-loop-row l = first_command l.rows (words l.line) ≡ first_command (drop l.row-index l.rows) (words l.line)
