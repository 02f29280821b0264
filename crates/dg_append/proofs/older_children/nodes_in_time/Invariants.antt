use Rattle.std.proofs.Common.{◌≡◌, ◌-◌, ◌/◌, ◌^◌, ◌≤◌, ◌++◌, reverse}
use Rattle.dg_append.proofs.older_children.nodes_in_time.Given as goal
use Rattle.dg_build.specs.OlderSteps.{in_time, older_in_time}

abbrev pub invariant-loop-low : goal.invariant-loop-low
invariant-loop-low l = record {
  low : l.low ≡ l.before / l.arity ^ l.height;
  high : l.high ≡ l.after / l.arity ^ l.height;
  up : l.low ≤ l.high;
  far : l.height ≤ l.after;
  is : in_time l.arity (l.after - l.height) l.height l.low l.high ++ reverse l.nodes.items ≡ older_in_time l.arity l.before l.after;
}

abbrev pub decreases-loop-low : goal.decreases-loop-low
decreases-loop-low l = l.high
