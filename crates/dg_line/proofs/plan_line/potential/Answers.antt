use Rattle.dg_plan.specs.declared.certificate.PlanLine.TheVariants as plan_line
use Rattle.dg_line.proofs.plan_line.potential.Goals as goal

pub returns-in-None : goal.returns-in-None
returns-in-None c = c.in-None.ensures (λ node value. plan_line.Potential node value)

pub returns : goal.returns
returns c = c.in-Some.ensures (λ node value. plan_line.Potential node value)
