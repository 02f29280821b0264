use Rattle.std.proofs.Common.{◌≡◌, ◌==◌, map, take}
use Rattle.dg_messages.proofs.hearing.targets_at.Given as goal

abbrev pub invariant-loop-t : goal.invariant-loop-t
invariant-loop-t l = l.targets.items ≡ map (λ t. l.instant == t) (take l.t-index l.times)
