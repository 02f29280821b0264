use Rattle.dg_ask.proofs.AnswerPlans.{StepsSoFar}
use Rattle.dg_ask.proofs.plans.add_steps.Given as goal

abbrev pub invariant-loop-step : goal.invariant-loop-step
invariant-loop-step l = StepsSoFar l.edges l.steps l.fn.lines.items l.lines.items l.step-index
