use Rattle.std.proofs.Common.{length}
use Rattle.dg_line.proofs.tails.+then_prefix.Given as goal

abbrev pub decreases-then_prefix : goal.decreases-then_prefix
decreases-then_prefix l = length l.row.now
