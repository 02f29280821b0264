use Rattle.std.proofs.Common.{length}
use Rattle.dg_diff.proofs.interior.+all.Given as goal

abbrev pub decreases-all : goal.decreases-all
decreases-all l = length l.ways.now
