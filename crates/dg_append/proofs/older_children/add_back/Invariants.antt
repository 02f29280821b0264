use Rattle.std.proofs.Common.{◌≡◌, ◌+◌, ◌-◌, ◌≤◌, ◌++◌, map, reverse}
use Rattle.dg_append.proofs.older_children.add_back.Given as goal
use Rattle.dg_index.specs.Hierarchy.{numbers}
use Rattle.dg_index.specs.OlderNodes.{node_at}

abbrev pub invariant-loop-number : goal.invariant-loop-number
invariant-loop-number l = record {
  low : l.done ≤ l.number;
  high : l.number ≤ l.there;
  is : reverse l.nodes.items ≡ map (node_at l.height) (numbers (l.number + 1) (l.there - l.number)) ++ reverse l.fn.nodes.items;
}

abbrev pub decreases-loop-number : goal.decreases-loop-number
decreases-loop-number l = l.number
