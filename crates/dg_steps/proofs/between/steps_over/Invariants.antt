use Rattle.dg_steps.proofs.CrossingWalks.{Stepped}
use Rattle.dg_steps.proofs.between.steps_over.Given as goal

abbrev pub invariant-loop-n : goal.invariant-loop-n
invariant-loop-n l = Stepped l.kept l.n l.steps.items
