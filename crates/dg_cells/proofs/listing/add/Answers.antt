use Rattle.std.proofs.Common.{◌≡◌, ℕ, ◌+◌, List, Option, sym, ◌∙◌, subst}
use Rattle.dg_cells.specs.Rows.{Row}
use Rattle.dg_cells.specs.Pieces.{strung, numbers_before}
use Rattle.dg_cells.specs.Order.{IsListed, Puts}
use Rattle.dg_cells.proofs.OrderEdits.{listed_put}
use Rattle.dg_cells.proofs.listing.add.Goals as goal

pub returns-clause-listed : goal.returns-clause-listed
returns-clause-listed c =
    let old = c.args.rows.now.items in
    let new = c.insert-2.new.self.items in
    let order = strung c.args.order.now in
    let n = c.vacancy-n.result in
    let at = numbers_before c.args.order.now c.seek-position.result.piece + c.seek-position.result.index in
    let number : c.insert-2.result ≡ n = c.insert-2.ensures.number ∙ sym c.vacancy-n.ensures.number in
    let puts : Puts old new n c.bare.result =
    subst (λ (l : List (Option Row)). Puts l new n c.bare.result) c.reserve.ensures.items (subst (λ (m : ℕ). Puts c.reserve.new.self.items new m c.bare.result) number c.insert-2.ensures.puts)
    in
    subst (IsListed new) (sym c.in_ok-insert.ensures.ok)
    (listed_put old new order n c.bare.result c.args.x.now at c.requires c.bare.ensures.element c.seek-position.ensures.lower c.in_default-number_at.ensures.absent puts)
