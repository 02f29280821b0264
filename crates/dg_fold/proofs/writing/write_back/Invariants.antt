use Rattle.std.proofs.Common.{length, reverse}
use Rattle.dg_fold.proofs.WritingSteps.{Backed}
use Rattle.dg_fold.proofs.writing.write_back.Given as goal

abbrev pub invariant-loop-step : goal.invariant-loop-step
invariant-loop-step l = Backed l.fn.steps.items l.rest.items l.fn.ends.items l.at.items (reverse l.writings.items)

abbrev pub decreases-loop-step : goal.decreases-loop-step
decreases-loop-step l = length l.rest.items
