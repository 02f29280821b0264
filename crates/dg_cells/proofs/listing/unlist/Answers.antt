use Rattle.std.proofs.Common.{◌≡◌, ◌+◌, None, set, sym, ◌∙◌, subst}
use Rattle.dg_cells.specs.Rows.{cell_at}
use Rattle.dg_cells.specs.Pieces.{strung, numbers_before}
use Rattle.dg_cells.specs.Order.{IsListed}
use Rattle.dg_cells.proofs.OrderEdits.{element_is, listed_gone}
use Rattle.dg_cells.proofs.listing.unlist.Goals as goal

pub returns-clause-listed : goal.returns-clause-listed
returns-clause-listed c =
    let rows = c.args.rows.now.items in
    let order = strung c.args.order.now in
    let n = c.args.n in
    let at = numbers_before c.args.order.now c.seek-position.result.piece + c.seek-position.result.index in
    let mine = element_is (cell_at rows n) c.element-x.result c.element-x.ensures in
    let holds = c.in-Some.ensures.found in
    let number : c.in-Some.number ≡ n = c.requires.listed.apart c.in-Some.number n holds.row mine.0 holds.there mine.1 (holds.element ∙ sym mine.2) in
    subst (IsListed (set rows n None)) (sym c.remove.ensures)
    (listed_gone rows order n mine.0 at c.requires.listed mine.1 c.in-Some.ensures.number.0 (c.in-Some.ensures.number.1 ∙ number))
