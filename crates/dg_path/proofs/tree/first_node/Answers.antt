use Rattle.dg_path.proofs.SearchTables.{first_tail}
use Rattle.dg_path.proofs.tree.first_node.Goals as goal

pub returns-in-Some : goal.returns-in-Some
returns-in-Some c = λ a leads. first_tail c.args.links.now c.args.steps.now c.in-Some.step.now a c.args.target _ c.in-Some.ensures.value leads
