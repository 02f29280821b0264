use Rattle.std.proofs.Common.{length}
use Rattle.dg_fold.proofs.plan.+compose_alone.Given as goal

abbrev pub decreases-compose_alone : goal.decreases-compose_alone
decreases-compose_alone g l = length l.parts.now
