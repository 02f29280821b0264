use Rattle.dg_expr.proofs.ChosenElements.{chosen_are_shown}
use Rattle.dg_expr.proofs.laws.law_chosen_elements_are_shown.Goals as goal

pub returns : goal.returns
returns c = chosen_are_shown
