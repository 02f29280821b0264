use Rattle.std.proofs.Common.{◌≡◌, ◌++◌, map}
use Rattle.dg_history.specs.declared.node.NodeId.TheVariants.{Leaf}
use Rattle.dg_index.specs.Hierarchy.{numbers}
use Rattle.dg_planner.proofs.nodes.add_leaves.Given as goal

abbrev pub invariant-loop-n : goal.invariant-loop-n
invariant-loop-n l = l.nodes.items ≡ l.fn.nodes.items ++ map (λ k. Leaf k) (numbers 1 l.n)
