use Rattle.std.proofs.Common.{◌+◌, ◌*◌, length}
use Rattle.dg_gather.proofs.union.+compose_parts+fn-compose_parts-join+arg2+fn-compose_parts-join+arg3.Given as goal

abbrev pub decreases-compose_parts : goal.decreases-compose_parts
decreases-compose_parts g l = 2 * length l.parts.now

abbrev pub decreases-join+arg2 : goal.decreases-join+arg2
decreases-join+arg2 g l = 2 * length l.left.now + 1

abbrev pub decreases-join+arg3 : goal.decreases-join+arg3
decreases-join+arg3 g l = 2 * length l.right.now + 1
