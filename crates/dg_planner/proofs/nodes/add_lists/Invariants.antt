use Rattle.std.proofs.Common.{◌≡◌, ◌++◌, map}
use Rattle.dg_history.specs.declared.node.NodeId.TheVariants.{List}
use Rattle.dg_index.specs.Hierarchy.{numbers}
use Rattle.dg_planner.proofs.nodes.add_lists.Given as goal

abbrev pub invariant-loop-i : goal.invariant-loop-i
invariant-loop-i l = l.nodes.items ≡ l.fn.nodes.items ++ map (λ k. List k) (numbers 0 l.i)
