use Rattle.std.proofs.Common.{◌≡◌, ◌+◌, ◌-◌, ◌≤◌}
use Rattle.dg_index.specs.Hierarchy.{numbers}
use Rattle.dg_range.specs.ColumnRuns.{bytes_along}
use Rattle.dg_range.specs.ListValues.{all_node_columns, node_columns}
use Rattle.dg_range.proofs.values.values_bytes.Given as goal

abbrev pub invariant-loop-list : goal.invariant-loop-list
invariant-loop-list l = record {
  few : l.list ≤ l.total;
  all : l.bytes + bytes_along l.index.opening (node_columns (numbers l.list (l.total - l.list))) ≡ bytes_along l.index.opening (all_node_columns l.index.opening);
}

abbrev pub decreases-loop-list : goal.decreases-loop-list
decreases-loop-list l = l.total - l.list
