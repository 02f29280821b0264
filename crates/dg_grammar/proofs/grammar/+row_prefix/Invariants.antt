use Rattle.std.proofs.Common.{length}
use Rattle.dg_grammar.proofs.grammar.+row_prefix.Given as goal

abbrev pub decreases-row_prefix : goal.decreases-row_prefix
decreases-row_prefix l = length l.row.now
