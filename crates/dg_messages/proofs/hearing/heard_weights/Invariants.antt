use Rattle.dg_messages.proofs.MessageWeights.{Weighed}
use Rattle.dg_messages.proofs.hearing.heard_weights.Given as goal

abbrev pub invariant-loop-n : goal.invariant-loop-n
invariant-loop-n l = Weighed l.index.opening l.times l.singles l.n l.weights.items l.sum
