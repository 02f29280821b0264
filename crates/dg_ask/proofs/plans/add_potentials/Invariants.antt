use Rattle.dg_ask.proofs.AnswerPlans.{PotentialsSoFar}
use Rattle.dg_ask.proofs.plans.add_potentials.Given as goal

abbrev pub invariant-loop-i : goal.invariant-loop-i
invariant-loop-i l = PotentialsSoFar l.weight l.nodes l.potentials l.fn.lines.items l.lines.items l.i
