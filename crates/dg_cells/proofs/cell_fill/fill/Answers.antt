use Rattle.std.proofs.Common.{◌≡◌, List, Option, length, sym, ap, ◌∙◌, subst}
use Rattle.std.specs.List.{range_with_len}
use Rattle.dg_cells.specs.Rows.{Row, new_rows}
use Rattle.dg_cells.specs.Pieces.{strung}
use Rattle.dg_cells.specs.Order.{IsListed}
use Rattle.dg_cells.proofs.OrderNumbers.{listed_new}
use Rattle.dg_cells.proofs.cell_fill.fill.Goals as goal

pub returns-clause-listed : goal.returns-clause-listed
returns-clause-listed c =
    let items = c.args.items.now in
    let rows = new_rows c.args.current items in
    let count : c.in-Ok.count ≡ length items = c.in-Ok.ensures.1 in
    let order : strung c.in_ok-order.order ≡ range_with_len 0 (length items) =
    c.in_ok-order.ensures ∙ c.deref.ensures.value ∙ c.in_ok-numbers.ensures ∙ ap (range_with_len 0) count in
    subst (λ (l : List (Option Row)). IsListed l (strung c.in_ok-order.order)) (sym c.in_ok-rows.ensures)
    (subst (IsListed rows) (sym order) (listed_new c.args.current items c.requires))
