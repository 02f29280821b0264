use Rattle.std.proofs.Common.{◌≡◌, map, take}
use Rattle.std.specs.List.{All}
use Rattle.dg_aux.specs.Turns.{AuxState, HasRoomFor}
use Rattle.dg_session.specs.ValuesSaid.{kept_of}
use Rattle.dg_session.proofs.session.indexes.reserve.Given as goal

abbrev pub invariant-loop-aux : goal.invariant-loop-aux
invariant-loop-aux l = record {
  kept : map kept_of l.indexes ≡ map kept_of l.initial.indexes;
  room : All (λ (aux : AuxState). HasRoomFor aux l.count) (take l.aux-index l.indexes);
}
