use Rattle.dg_delta.proofs.Deltas.{is_associative}
use Rattle.dg_delta.proofs.laws.law_composed_is_associative.Goals as goal

pub returns : goal.returns
returns c = is_associative
