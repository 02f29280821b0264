use Rattle.dg_fold.proofs.Foldings.{enters_there}
use Rattle.dg_fold.proofs.folding.enter.Goals as goal

pub returns-then-is_same : goal.returns-then-is_same
returns-then-is_same c = λ yes.
    enters_there c.args.edges.now c.loop-edge.edge-index _ c.in-Paid.entered c.args.key c.in-Paid.field-1 c.loop-edge-test.true c.in-Paid.is (c.is_same.ensures.same c.if-is_same.true)
