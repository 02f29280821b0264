use Rattle.std.proofs.Common.{length}
use Rattle.dg_fold.proofs.folding.+push_walk.Given as goal

abbrev pub decreases-push_walk : goal.decreases-push_walk
decreases-push_walk g l = length l.walk.now
