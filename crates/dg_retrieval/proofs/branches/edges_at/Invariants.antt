use Rattle.std.proofs.Common.{◌≡◌, take}
use Rattle.dg_plan.specs.TreePaths.{edges_at}
use Rattle.dg_retrieval.proofs.branches.edges_at.Given as goal

abbrev pub invariant-loop-step : goal.invariant-loop-step
invariant-loop-step l = l.walk.items ≡ edges_at l.edges (take l.step-index l.steps)
