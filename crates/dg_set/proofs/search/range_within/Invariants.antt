use Rattle.std.proofs.Common.{◌-◌, ◌≤◌}
use Rattle.dg_set.specs.Indices.{IsWithin}
use Rattle.dg_set.proofs.search.range_within.Given as goal

abbrev pub invariant-loop-low : goal.invariant-loop-low
invariant-loop-low l = record { within : IsWithin l.element l.items l.low l.high; behind : l.from ≤ l.low }

abbrev pub decreases-loop-low : goal.decreases-loop-low
decreases-loop-low l = l.high - l.low
