use Rattle.dg_delta.proofs.Deltas.{between_leads_on}
use Rattle.dg_delta.proofs.laws.law_between_leads_from_the_first_to_the_second.Goals as goal

pub returns : goal.returns
returns c = between_leads_on
