use Rattle.dg_history.specs.declared.node.NodeId.TheVariants.{Root}
use Rattle.dg_plan.specs.declared.edge.Edge.{Edge}
use Rattle.dg_plan.specs.declared.edge.Via.TheVariants.{Now}
use Rattle.dg_fold.proofs.Steps.{going_on, fails_next}
use Rattle.dg_fold.proofs.tree_step.steps_along.Goals as goal

pub loop-edge-preserved : goal.loop-edge-preserved
loop-edge-preserved g c =
    let d : Edge = record { from = Root; to = Root; weight = 0; via = Now } in
    going_on c.args.name_count c.args.recent.now c.args.edges.now c.args.parts.now c.loop-edge.edge-index c.loop-edge.rest.now c.loop-edge.steps.items d
    c.in-Ok.delta c.parts_behind-rest.result.now c.push.new.self.items c.loop-edge.invariant c.loop-edge-test.true c.in-Ok.ensures
    c.parts_behind-rest.ensures c.in_ok-push.ensures.items

pub returns-in-Err-clause-err : goal.returns-in-Err-clause-err
returns-in-Err-clause-err g c =
    let d : Edge = record { from = Root; to = Root; weight = 0; via = Now } in
    fails_next c.args.name_count c.args.recent.now c.args.edges.now c.args.parts.now c.loop-edge.edge-index c.loop-edge.rest.now c.loop-edge.steps.items d c.in-Err.fault
    c.loop-edge.invariant c.loop-edge-test.true c.in-Err.ensures
