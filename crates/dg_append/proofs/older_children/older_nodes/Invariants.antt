use Rattle.std.proofs.Common.{◌≡◌, ◌+◌, ◌-◌, ◌/◌, ◌^◌, ◌≤◌, ◌++◌}
use Rattle.std.specs.List.{flat_map}
use Rattle.dg_append.proofs.older_children.older_nodes.Given as goal
use Rattle.dg_index.specs.Hierarchy.{numbers}
use Rattle.dg_index.specs.OlderNodes.{older, older_at}

abbrev pub invariant-loop-low : goal.invariant-loop-low
invariant-loop-low l = record {
  low : l.low ≡ l.before / l.arity ^ l.height;
  high : l.high ≡ l.after / l.arity ^ l.height;
  up : l.low ≤ l.high;
  far : l.height ≤ l.after;
  is : l.nodes.items ++ flat_map (older_at l.arity l.before l.after) (numbers (l.height + 1) (l.after - l.height)) ≡ older l.arity l.before l.after;
}

abbrev pub decreases-loop-low : goal.decreases-loop-low
decreases-loop-low l = l.high
