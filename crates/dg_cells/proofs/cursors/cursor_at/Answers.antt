use Rattle.std.proofs.Common.{◌+◌, ap, ◌∙◌, subst}
use Rattle.std.proofs.lemmas.List.Elements.{All-get_or}
use Rattle.dg_cells.specs.Rows.{cell_at}
use Rattle.dg_cells.specs.Pieces.{strung, numbers_before}
use Rattle.dg_cells.specs.Cursors.{index_of_row}
use Rattle.dg_cells.proofs.Orders.{IsCell}
use Rattle.dg_cells.proofs.CursorRows.{position_is, position_past}
use Rattle.dg_cells.proofs.RowChanges.{some_row}
use Rattle.dg_cells.proofs.cursors.cursor_at.Goals as goal

pub returns-in-Some : goal.returns-in-Some
returns-in-Some c =
    let rows = c.args.rows.now.items in
    let order = strung c.args.order.now in
    let at = numbers_before c.args.order.now c.args.position.piece + c.args.position.index in
    let row = some_row (cell_at rows c.in-Some.n) (subst (IsCell rows) c.in-Some.ensures.1 (All-get_or (IsCell rows) order at 0 c.in-Some.ensures.0 c.requires.listed.in_order.live)) in
    ap (index_of_row rows) row.1 ∙ position_is rows order c.requires.listed at c.in-Some.n row.0 c.in-Some.ensures.0 c.in-Some.ensures.1 row.1

pub returns-in-None : goal.returns-in-None
returns-in-None c = position_past c.args.rows.now.items (strung c.args.order.now) c.requires.listed ∙ c.in-None.ensures
