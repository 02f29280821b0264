use Rattle.std.proofs.Common.{◌≡◌, map, take}
use Rattle.dg_steps.specs.TreeStepWalks.{ons}
use Rattle.dg_steps.proofs.between.ons_of.Given as goal

abbrev pub invariant-loop-step : goal.invariant-loop-step
invariant-loop-step l = map (λ d. d.now) l.deltas.items ≡ ons l.from l.to (take l.step-index l.kept)
