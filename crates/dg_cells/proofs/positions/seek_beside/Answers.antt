use Rattle.std.proofs.Common.{◌<◌, length, sym, subst, arith}
use Rattle.dg_cells.specs.Order.{AreCells}
use Rattle.dg_cells.proofs.Orders.{cells_of_piece}
use Rattle.dg_cells.proofs.positions.seek_beside.Goals as goal

pub seek_within-index-requires : goal.seek_within-index-requires
seek_within-index-requires c =
    let past = c.if-near-len.false in
    let len = c.len.ensures in
    let inside : c.args.near.piece < length c.args.pieces.now = omega arith in
    subst (AreCells c.args.rows.now.items) (sym c.piece-piece.ensures.value) (cells_of_piece c.args.rows.now.items c.args.pieces.now c.args.near.piece c.requires inside)
