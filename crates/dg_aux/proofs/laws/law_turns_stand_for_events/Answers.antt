use Rattle.dg_aux.proofs.TurnLaws.{turns_stand}
use Rattle.dg_aux.proofs.laws.law_turns_stand_for_events.Goals as goal

pub returns : goal.returns
returns c = turns_stand
