use Rattle.std.proofs.Common.{◌≡◌, ◌+◌, ◌-◌, ◌≤◌}
use Rattle.std.specs.List.{sum_by}
use Rattle.dg_index.specs.Hierarchy.{numbers}
use Rattle.dg_range.specs.Weights.{list_bytes}
use Rattle.dg_range.proofs.weight.lists_bytes.Given as goal

abbrev pub invariant-loop-list : goal.invariant-loop-list
invariant-loop-list l = record {
  few : l.list ≤ l.high;
  all : l.bytes + sum_by (list_bytes l.index.opening l.cols) (numbers l.list (l.high - l.list))
      ≡ sum_by (list_bytes l.index.opening l.cols) (numbers l.low (l.high - l.low));
}

abbrev pub decreases-loop-list : goal.decreases-loop-list
decreases-loop-list l = l.high - l.list
