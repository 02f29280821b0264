use Rattle.dg_plan.specs.declared.certificate.PlanLine.TheVariants as plan_line
use Rattle.dg_line.proofs.Steps.{step_is}
use Rattle.dg_line.proofs.plan_line.step.Goals as goal

pub returns-in-None-node_and_number : goal.returns-in-None-node_and_number
returns-in-None-node_and_number c =
    step_is c.args.words c.in-Some.found.now c.next.new.self c.in-Some-n32.found _ c.in-Some.ensures c.in-Some-n32.ensures
    (c.in-None-node_and_number.ensures (λ node weight. plan_line.Step c.in-Some-n32.found node weight))

pub returns : goal.returns
returns c =
    step_is c.args.words c.in-Some.found.now c.next.new.self c.in-Some-n32.found _ c.in-Some.ensures c.in-Some-n32.ensures
    (c.in-Some-node_and_number.ensures (λ node weight. plan_line.Step c.in-Some-n32.found node weight))
