use Rattle.std.proofs.Common.{◌+◌, ◌-◌, ◌++◌, ◌∷◌, [], ap, ◌∙◌, arith}
use Rattle.dg_append.proofs.OlderNodeHeights.{next_node}
use Rattle.dg_append.proofs.older_children.add_nodes.Goals as goal
use Rattle.dg_history.specs.declared.node.NodeId.{NodeId}
use Rattle.dg_index.specs.OlderNodes.{node_at}

pub loop-number-preserved : goal.loop-number-preserved
loop-number-preserved c =
    next_node (node_at c.args.height) (c.loop-number.number + 1) (c.args.there - c.loop-number.number) (c.args.there - (c.loop-number.number + 1)) c.loop-number.nodes.items _ _ (omega arith)
    (c.in_ok-push.ensures.items ∙ ap (λ (x : NodeId). c.loop-number.nodes.items ++ x ∷ []) c.node_at.ensures) c.loop-number.invariant
