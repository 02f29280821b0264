use Rattle.std.proofs.Common.{◌≡◌, ℕ, ◌+◌, Some, length, get_or, sym, ap, ◌∙◌, arith}
use Rattle.std.specs.Ordering.{is_eq}
use Rattle.dg_graph.specs.declared.element.Element.TheVariants as kind
use Rattle.dg_graph.specs.Elements.{same}
use Rattle.dg_cells.specs.Rows.{cell_at}
use Rattle.dg_cells.specs.Pieces.{strung, numbers_before}
use Rattle.dg_cells.specs.Order.{cell_element, elements_in}
use Rattle.dg_cells.proofs.Orders.{element_there}
use Rattle.dg_cells.proofs.OrderEdits.{absent_from, lacks_of}
use Rattle.dg_cells.proofs.listing.number_at.Goals as goal

pub returns-else-is_eq-clause-absent : goal.returns-else-is_eq-clause-absent
returns-else-is_eq-clause-absent c =
    let rows = c.args.rows.now.items in
    let order = strung c.args.order.now in
    let x = c.args.x.now in
    let at = numbers_before c.args.order.now c.args.position.piece + c.args.position.index in
    let there = element_there rows order at (kind.Node 0) c.requires.listed.in_order.live c.in-Some.ensures.0 in
    let both : Some c.element.result ≡ Some (get_or (elements_in rows order) at (kind.Node 0)) = sym c.element.ensures ∙ ap (λ (n : ℕ). cell_element (cell_at rows n)) (sym c.in-Some.ensures.1) ∙ there in
    let is : c.element.result ≡ get_or (elements_in rows order) at (kind.Node 0) = cc in
    absent_from rows order x at c.requires.listed c.requires.lower
    (λ _. ap (same x) (sym is) ∙ ap is_eq (sym c.compare.ensures) ∙ sym c.is_eq.ensures ∙ c.if-is_eq.false)

pub returns-else-is_eq-clause-lacks : goal.returns-else-is_eq-clause-lacks
returns-else-is_eq-clause-lacks c =
    lacks_of c.args.rows.now.items (strung c.args.order.now) c.args.x.now 0 c.requires.listed (returns-else-is_eq-clause-absent c)

pub returns-in-None-clause-absent : goal.returns-in-None-clause-absent
returns-in-None-clause-absent c =
    let end : length (strung c.args.order.now) ≡ numbers_before c.args.order.now c.args.position.piece + c.args.position.index = c.in-None.ensures in
    absent_from c.args.rows.now.items (strung c.args.order.now) c.args.x.now (numbers_before c.args.order.now c.args.position.piece + c.args.position.index) c.requires.listed c.requires.lower
    (λ h. absurd (omega arith))

pub returns-in-None-clause-lacks : goal.returns-in-None-clause-lacks
returns-in-None-clause-lacks c =
    lacks_of c.args.rows.now.items (strung c.args.order.now) c.args.x.now 0 c.requires.listed (returns-in-None-clause-absent c)
