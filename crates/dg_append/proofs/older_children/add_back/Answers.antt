use Rattle.std.proofs.Common.{◌++◌, ◌∷◌, [], ap, ◌∙◌, arith}
use Rattle.dg_append.proofs.OlderChildTimes.{back_all, back_none, back_one}
use Rattle.dg_append.proofs.older_children.add_back.Goals as goal
use Rattle.dg_history.specs.declared.node.NodeId.{NodeId}
use Rattle.dg_index.specs.OlderNodes.{node_at}

pub loop-number-init : goal.loop-number-init
loop-number-init c = record {
  low = c.requires;
  high = omega arith;
  is = back_none (node_at c.args.height) c.args.there c.args.nodes.now.items;
}

pub loop-number-preserved : goal.loop-number-preserved
loop-number-preserved c =
    let i = c.loop-number.invariant in
    record {
      low = omega (arith, i.low, c.loop-number-test.true);
      high = omega (arith, i.high);
      is = back_one (node_at c.args.height) c.loop-number.number c.args.there c.loop-number.nodes.items _ _ (omega (arith, c.loop-number-test.true)) i.high
          (c.in_ok-push.ensures.items ∙ ap (λ (x : NodeId). c.loop-number.nodes.items ++ x ∷ []) c.node_at.ensures) i.is;
    }

pub returns : goal.returns
returns c =
    let i = c.loop-number.invariant in
    back_all (node_at c.args.height) c.loop-number.number c.args.done c.args.there c.loop-number.nodes.items _ (omega (arith, i.low, c.loop-number-test.false)) i.is
