use denote.RattleType.{RattleType}
use denote.Param.Send.{IsSync}
use Rattle.dg_arena.proofs.Lending.{places_sync}
use Rattle.dg_arena.specs.contracts.raw.Places.{the_row}

pub sync : (R : RattleType) → IsSync R → IsSync (the_row R)
sync = places_sync
