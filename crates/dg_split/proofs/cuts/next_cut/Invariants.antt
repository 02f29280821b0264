use Rattle.std.proofs.Common.{◌≡◌, ◌≤◌, length}
use Rattle.dg_history.specs.declared.limits.TheConstants.{BATCH_LINES_MAX}
use Rattle.dg_partition.specs.Cuts.{cut_of, greatest, may_end}
use Rattle.dg_split.proofs.cuts.next_cut.Given as goal

abbrev pub invariant-loop-count : goal.invariant-loop-count
invariant-loop-count l = record {
  few : l.count ≤ BATCH_LINES_MAX;
  within : l.count ≤ length l.events;
  greatest : greatest (may_end l.events) l.count ≡ cut_of l.events;
}

abbrev pub decreases-loop-count : goal.decreases-loop-count
decreases-loop-count l = l.count
