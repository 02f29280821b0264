use Rattle.dg_partition.proofs.PartLegality.{events_of_cuts}
use Rattle.dg_partition.proofs.laws.law_parts_have_their_events.Goals as goal

pub returns : goal.returns
returns c = λ z legal i p. events_of_cuts p i z legal
