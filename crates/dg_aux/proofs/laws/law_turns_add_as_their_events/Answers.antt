use Rattle.dg_aux.proofs.TurnLaws.{turns_add}
use Rattle.dg_aux.proofs.laws.law_turns_add_as_their_events.Goals as goal

pub returns : goal.returns
returns c = turns_add
