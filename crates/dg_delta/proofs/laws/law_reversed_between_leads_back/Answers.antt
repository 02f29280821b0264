use Rattle.dg_delta.proofs.Deltas.{reversed_leads_back}
use Rattle.dg_delta.proofs.laws.law_reversed_between_leads_back.Goals as goal

pub returns : goal.returns
returns c = reversed_leads_back
