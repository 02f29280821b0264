use Rattle.std.proofs.Common.{◌+◌, List, sym, subst}
use Rattle.dg_graph.specs.declared.element.Element.{Element}
use Rattle.dg_cells.specs.Pieces.{strung, numbers_before}
use Rattle.dg_cells.specs.Order.{IsLower}
use Rattle.dg_cells.specs.Cursors.{ordered_elements}
use Rattle.dg_cells.proofs.CursorRows.{elements_are}
use Rattle.dg_cells.proofs.cursors.seek_from.Goals as goal

pub returns : goal.returns
returns c =
    let rows = c.args.rows.now.items in
    let x = c.args.x.now in
    subst (IsLower x (ordered_elements rows)) (sym c.cursor_at.ensures)
    (subst (λ (l : List Element). IsLower x l (numbers_before c.args.order.now c.seek.result.piece + c.seek.result.index)) (elements_are rows (strung c.args.order.now) c.requires) c.seek.ensures.lower)
