use Rattle.std.proofs.Common.{length}
use Rattle.dg_fold.proofs.composing.+composed.Given as goal

abbrev pub decreases-composed : goal.decreases-composed
decreases-composed l = length l.deltas.now
