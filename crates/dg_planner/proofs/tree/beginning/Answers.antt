use Rattle.dg_planner.proofs.OrderPlans.{first_from}
use Rattle.dg_planner.proofs.tree.beginning.Goals as goal

pub returns-in-Some : goal.returns-in-Some
returns-in-Some c = λ a leads. first_from c.args.edges.now c.args.steps.now c.in-Some.step.now a c.args.target _ c.in-Some.ensures.value leads
