use denote.RattleType.{RattleType}
use denote.Param.Send.{IsSend}
use Rattle.dg_arena.proofs.Lending.{places_send}
use Rattle.dg_arena.specs.contracts.raw.Places.{the_row}

pub send : (R : RattleType) → IsSend R → IsSend (the_row R)
send = places_send
