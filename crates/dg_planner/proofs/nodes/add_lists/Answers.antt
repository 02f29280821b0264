use Rattle.std.proofs.Common.{◌++◌, ◌∷◌, [], ap, ◌∙◌, arith}
use Rattle.dg_history.specs.declared.node.NodeId.TheVariants.{List}
use Rattle.dg_planner.proofs.HierarchyNodes.{number_more}
use Rattle.dg_planner.proofs.nodes.add_lists.Goals as goal

pub loop-i-preserved : goal.loop-i-preserved
loop-i-preserved c =
    c.in_ok-push.ensures.items ∙ (ap (λ t. t ++ List c.loop-i.i ∷ []) c.loop-i.invariant ∙ number_more (λ k. List k) c.args.nodes.now.items 0 c.loop-i.i c.loop-i.i (omega arith))
