use Rattle.std.proofs.Common.{◌≡◌, ◌+◌, ◌-◌, ◌++◌, map}
use Rattle.dg_append.proofs.older_children.add_nodes.Given as goal
use Rattle.dg_index.specs.Hierarchy.{numbers}
use Rattle.dg_index.specs.OlderNodes.{node_at}

abbrev pub invariant-loop-number : goal.invariant-loop-number
invariant-loop-number l = l.nodes.items ++ map (node_at l.height) (numbers (l.number + 1) (l.there - l.number)) ≡ l.fn.nodes.items ++ map (node_at l.height) (numbers (l.done + 1) (l.there - l.done))
