use Rattle.std.proofs.Common.{◌≤◌}
use Rattle.dg_set.specs.Indices.{IsWithin}
use Rattle.dg_set.proofs.search.range_to.Given as goal

abbrev pub invariant-loop-step : goal.invariant-loop-step
invariant-loop-step l = record { near : IsWithin l.element l.items 0 l.high; some : 1 ≤ l.step }

abbrev pub decreases-loop-step : goal.decreases-loop-step
decreases-loop-step l = l.high
