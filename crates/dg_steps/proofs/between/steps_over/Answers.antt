use Rattle.dg_steps.proofs.CrossingWalks.{stepped_none, stepped_on}
use Rattle.dg_steps.proofs.between.steps_over.Goals as goal

pub loop-n-init : goal.loop-n-init
loop-n-init c = stepped_none c.args.kept.now c.in_ok-steps.steps.items c.in_ok-steps.ensures.items

pub loop-n-preserved : goal.loop-n-preserved
loop-n-preserved c =
    stepped_on c.args.kept.now c.loop-n.n c.loop-n.steps.items c.push.new.self.items c.in_ok-step_over.field-0 c.loop-n.invariant c.in_ok-step_over.ensures c.in_ok-push.ensures.items
