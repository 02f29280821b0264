use Rattle.std.proofs.Common.{◌≡◌, ◌+◌, Some, sym, ap, ◌∙◌, subst}
use Rattle.dg_cells.specs.Rows.{cell_at, ClearsBits}
use Rattle.dg_pool.specs.Sweeps.{CellsSwept, Clears, is_needed}
use Rattle.dg_pool.proofs.CurrentGraph.{one_row, writes_weaker}
use Rattle.dg_pool.proofs.SweepCells.{swept_kept, swept_given, cleared_by_mask}
use Rattle.dg_pool.proofs.sweep.sweep_cell.Goals as goal

pub returns-then-is_needed-clause-swept : goal.returns-then-is_needed-clause-swept
returns-then-is_needed-clause-swept c = λ slots fit masks.
    let old = c.args.cells.now in
    let n = c.args.n in
    let w = c.clear.ensures in
    let there : cell_at old n ≡ Some c.in-Some.row = sym c.row.ensures ∙ c.in-Some.is in
    let cleared = writes_weaker old c.clear.new.self n (ClearsBits c.args.masks.now.swept) (Clears slots) w (cleared_by_mask slots fit c.args.masks.now.swept masks.swept w.before w.after w.how) in
    swept_kept slots fit old c.clear.new.self n cleared (ap (is_needed slots) (one_row old n cleared.before c.in-Some.row cleared.was there) ∙ sym (c.is_needed.ensures slots fit masks) ∙ c.if-is_needed.true)

pub returns-else-is_needed-clause-swept : goal.returns-else-is_needed-clause-swept
returns-else-is_needed-clause-swept c = λ slots fit masks.
    let old = c.args.cells.now in
    let n = c.args.n in
    let there : cell_at old n ≡ Some c.in-Some.row = sym c.row.ensures ∙ c.in-Some.is in
    subst (λ l. CellsSwept slots old l n (n + 1)) (sym c.give.ensures) (swept_given slots fit old n c.in-Some.row there (sym (c.is_needed.ensures slots fit masks) ∙ c.if-is_needed.false))
