use Rattle.std.proofs.Common.{List, Option, subst}
use Rattle.dg_cells.specs.Rows.{Row, AllHave}
use Rattle.dg_cells.proofs.RowNumbers.{all_numbered}
use Rattle.dg_cells.proofs.cells.Cells.add_numbered.Goals as goal

pub returns-then-lacking-eq0-clause-there : goal.returns-then-lacking-eq0-clause-there
returns-then-lacking-eq0-clause-there c =
    let items = c.args.items.now in
    subst (λ (l : List (Option Row)). AllHave l items) c.self.view_is (all_numbered c.self.inside.rows.items items c.in_ok-numbers.numbers.items (c.in_ok-numbers.ensures c.if-lacking-eq0.true))
