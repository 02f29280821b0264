use Rattle.std.proofs.Common.{◌≡◌, take, map}
use Rattle.dg_cells.specs.Pieces.{strung}
use Rattle.dg_cells.proofs.pieces.Pieces.numbers.Given as goal

abbrev pub invariant-loop-piece : goal.invariant-loop-piece
invariant-loop-piece l = l.numbers.items ≡ strung (map (λ v. v.items) (take l.piece-index l.piece-items))
