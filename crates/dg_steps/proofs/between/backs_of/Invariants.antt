use Rattle.std.proofs.Common.{◌≡◌, map, take, reverse}
use Rattle.dg_steps.specs.TreeStepWalks.{backs}
use Rattle.dg_steps.proofs.between.backs_of.Given as goal

abbrev pub invariant-loop-step : goal.invariant-loop-step
invariant-loop-step l = map (λ d. d.now) (reverse l.deltas.items) ≡ backs l.from l.to (take l.step-index l.kept)
