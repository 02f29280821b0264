use denote.RattleType.{RattleType}
use denote.Param.Send.{IsSync}
use Rattle.core.specs.declared.alloc.Allocator.{Ghosts}
use Rattle.dg_arena.proofs.Lending.{title_sync}
use Rattle.dg_arena.specs.contracts.raw.Title.{the_row}

pub sync : (R A : RattleType) (g : Ghosts A.Denot) → IsSync (the_row R A g)
sync = title_sync
