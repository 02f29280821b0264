use Rattle.std.proofs.Common.{length}
use Rattle.dg_diff.proofs.differential.+union_all.Given as goal

abbrev pub decreases-union_all : goal.decreases-union_all
decreases-union_all l = length l.sets.now
