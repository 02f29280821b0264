use Rattle.std.proofs.Common.{length}
use Rattle.dg_expr.proofs.reading.Owing.+prefix.Given as goal

abbrev pub decreases-prefix : goal.decreases-prefix
decreases-prefix l = length l.rest.now
