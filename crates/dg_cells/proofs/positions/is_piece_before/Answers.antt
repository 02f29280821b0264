use Rattle.std.proofs.Common.{◌-◌, length, sym, ap, subst, arith}
use Rattle.std.proofs.lemmas.List.Elements.{All-get_or}
use Rattle.dg_cells.specs.Order.{AreCells}
use Rattle.dg_cells.proofs.Orders.{IsCell, cells_of_piece}
use Rattle.dg_cells.proofs.positions.is_piece_before.Goals as goal

pub is_before-requires : goal.is_before-requires
is_before-requires c =
    let rows = c.args.rows.now.items in
    let piece = c.piece-piece.result.now in
    let some = c.piece-piece.ensures.piece.some in
    let len = ap length c.piece-piece.ensures.value in
    All-get_or (IsCell rows) piece (length piece - 1) 0 (omega arith)
    (subst (AreCells rows) (sym c.piece-piece.ensures.value) (cells_of_piece rows c.args.pieces.now c.args.n c.requires.cells c.requires.within))
