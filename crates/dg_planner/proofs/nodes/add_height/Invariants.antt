use Rattle.std.proofs.Common.{◌≡◌, ◌++◌, map}
use Rattle.dg_history.specs.declared.node.NodeId.TheVariants.{Inner}
use Rattle.dg_index.specs.Hierarchy.{numbers}
use Rattle.dg_planner.proofs.nodes.add_height.Given as goal

abbrev pub invariant-loop-n : goal.invariant-loop-n
invariant-loop-n l = l.nodes.items ≡ l.fn.nodes.items ++ map (λ k. Inner l.height k) (numbers 1 l.n)
