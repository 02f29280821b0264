use Rattle.dg_fold.proofs.Steps.{Going}
use Rattle.dg_fold.proofs.tree_step.steps_along.Given as goal

abbrev pub invariant-loop-edge : goal.invariant-loop-edge
invariant-loop-edge g l = Going l.name_count l.recent l.edges l.fn.parts l.edge-index l.rest l.steps.items
