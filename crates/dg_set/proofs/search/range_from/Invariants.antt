use Rattle.std.proofs.Common.{◌-◌, ◌≤◌, length}
use Rattle.dg_set.specs.Indices.{IsWithin}
use Rattle.dg_set.proofs.search.range_from.Given as goal

abbrev pub invariant-loop-step : goal.invariant-loop-step
invariant-loop-step l = record {
  near : IsWithin l.element l.items l.low (length l.items);
  some : 1 ≤ l.step;
  behind : l.fn.from ≤ l.low;
}

abbrev pub decreases-loop-step : goal.decreases-loop-step
decreases-loop-step l = length l.items - l.low
