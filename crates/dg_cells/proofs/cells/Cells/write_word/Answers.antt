use Rattle.std.proofs.Common.{List, Option, sym, subst}
use Rattle.dg_cells.specs.Rows.{Row}
use Rattle.dg_cells.specs.Pieces.{strung}
use Rattle.dg_cells.specs.Order.{IsListed}
use Rattle.dg_cells.proofs.OrderEdits.{listed_rewritten}
use Rattle.dg_cells.proofs.cells.Cells.write_word.Goals as goal

pub invariant_of-self : goal.invariant_of-self
invariant_of-self c =
    let order = strung c.self.inside.order in
    let w = c.write_word.ensures in
    subst (λ (l : List (Option Row)). IsListed l order) (sym w.is)
    (listed_rewritten c.self.inside.rows.items order c.args.n w.before w.after w.was w.how.element c.self.invariant)
