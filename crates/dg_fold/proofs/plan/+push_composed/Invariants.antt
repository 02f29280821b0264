use Rattle.std.proofs.Common.{length}
use Rattle.dg_fold.proofs.plan.+push_composed.Given as goal

abbrev pub decreases-push_composed : goal.decreases-push_composed
decreases-push_composed g l = length l.parts.now
