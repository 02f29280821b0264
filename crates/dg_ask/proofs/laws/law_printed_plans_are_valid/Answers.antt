use Rattle.dg_ask.proofs.PrintedPlanLines.{printed_plans_are_valid}
use Rattle.dg_ask.proofs.laws.law_printed_plans_are_valid.Goals as goal

pub returns : goal.returns
returns c = printed_plans_are_valid c.law_nodes_are_distinct.ensures c.law_plans_are_certificates.ensures c.law_plans_are_certified.ensures
