use Rattle.std.proofs.Common.{◌≡◌, take}
use Rattle.std.specs.List.{sum}
use Rattle.dg_planner.proofs.TreeGrowth.{AreWeighed}
use Rattle.dg_planner.proofs.planner.Planner.singles_of.Given as goal

abbrev pub invariant-loop-target : goal.invariant-loop-target
invariant-loop-target l = AreWeighed l.self-inside.edges.items (take l.target-index l.targets) l.weights.items × (l.sum ≡ sum l.weights.items)
