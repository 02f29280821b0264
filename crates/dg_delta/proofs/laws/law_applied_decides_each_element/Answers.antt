use Rattle.dg_delta.proofs.Deltas.{decides_each_element}
use Rattle.dg_delta.proofs.laws.law_applied_decides_each_element.Goals as goal

pub returns : goal.returns
returns c = decides_each_element
