use Rattle.std.proofs.Common.{ℕ, ap, Vec, Global}
use Rattle.dg_cells.proofs.RowNumbers.{all_numbered, numbers_as}
use Rattle.dg_cells.proofs.cells.Cells.add_missing.Goals as goal
use Rattle.dg_cells.proofs.cells.Cells.add_missing.Goals.{then-lacking-len+in_ok-merge, else-lacking-len+in_ok-add_each}

pub returns-clause-there : goal.returns-clause-there
returns-clause-there c =
    let items = c.args.items.now in
    let new = c.if-lacking-len.self in
    let numbers = c.if-lacking-len.numbers.items in
    all_numbered new items numbers
    (elim c.if-lacking-len.branch [
      | then-lacking-len+in_ok-merge w ↦ numbers_as w.merge.new.rows.items new items w.merge.new.numbers.items numbers (w.self-is) (ap (λ (v : Vec ℕ Global). v.items) w.numbers-is) w.in_ok-merge.ensures.numbers
      | else-lacking-len+in_ok-add_each w ↦ numbers_as w.add_each.new.rows.items new items w.add_each.new.numbers.items numbers (w.self-is) (ap (λ (v : Vec ℕ Global). v.items) w.numbers-is) w.in_ok-add_each.ensures.numbers
    ])
