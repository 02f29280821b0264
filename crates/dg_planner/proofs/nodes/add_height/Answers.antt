use Rattle.std.proofs.Common.{◌+◌, ◌++◌, ◌∷◌, [], ap, ◌∙◌, arith}
use Rattle.dg_history.specs.declared.node.NodeId.TheVariants.{Inner}
use Rattle.dg_planner.proofs.HierarchyNodes.{number_more}
use Rattle.dg_planner.proofs.nodes.add_height.Goals as goal

pub loop-n-preserved : goal.loop-n-preserved
loop-n-preserved c =
    c.in_ok-push.ensures.items ∙ (ap (λ t. t ++ Inner c.args.height (c.loop-n.n + 1) ∷ []) c.loop-n.invariant ∙ number_more (λ k. Inner c.args.height k) c.args.nodes.now.items 1 c.loop-n.n (c.loop-n.n + 1) (omega arith))
