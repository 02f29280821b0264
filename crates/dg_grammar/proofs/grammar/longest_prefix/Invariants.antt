use Rattle.std.proofs.Common.{take}
use Rattle.dg_grammar.specs.Prefixes.{IsLongestPrefix}
use Rattle.dg_grammar.specs.Symbols.{IsLineOfOne, rows_of}
use Rattle.dg_grammar.proofs.grammar.longest_prefix.Given as goal

abbrev pub invariant-loop-row : goal.invariant-loop-row
invariant-loop-row l = IsLongestPrefix (IsLineOfOne (take l.row-index (rows_of l.rows))) l.line l.longest
