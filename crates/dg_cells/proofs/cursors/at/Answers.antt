use Rattle.std.proofs.Common.{ℕ, Option, sym, ap, ◌∙◌}
use Rattle.std.specs.Prelude.{slice_get}
use Rattle.dg_cells.specs.Rows.{Row, cell_at}
use Rattle.dg_cells.specs.Pieces.{strung}
use Rattle.dg_cells.specs.Cursors.{ordered, row_at, index_of_row}
use Rattle.dg_cells.proofs.CursorRows.{index_of_cell, row_there, position_is}
use Rattle.dg_cells.proofs.RowChanges.{some_row}
use Rattle.dg_cells.proofs.cursors.at.Goals as goal

pub returns-then-is_occupied-clause-found : goal.returns-then-is_occupied-clause-found
returns-then-is_occupied-clause-found c =
    let rows = c.args.rows.now.items in
    let order = strung c.args.order.now in
    let n = c.in-Some.n in
    let row = some_row (cell_at rows n) (sym c.is_occupied.ensures ∙ c.if-is_occupied.true) in
    let position = index_of_cell rows order c.requires n row.0 row.1 in
    ap (λ (o : Option ℕ). slice_get (ordered rows) (index_of_row rows (row_at rows o))) c.in-Some.is
    ∙ ap (λ (o : Option Row). slice_get (ordered rows) (index_of_row rows o)) row.1
    ∙ ap (slice_get (ordered rows)) (position_is rows order c.requires position.0 n row.0 position.1 position.2 row.1)
    ∙ row_there rows order c.requires position.0 n row.0 position.1 position.2 row.1
    ∙ sym row.1
