use Rattle.std.proofs.Common.{map, take}
use Rattle.dg_grammar.specs.Prefixes.{IsLongestPrefix}
use Rattle.dg_line.specs.Table.{IsReadByOne, reading_of}
use Rattle.dg_line.proofs.rows.command_prefix.Given as goal

abbrev pub invariant-loop-row : goal.invariant-loop-row
invariant-loop-row l = IsLongestPrefix (IsReadByOne (take l.row-index (map reading_of l.rows))) l.line l.longest
