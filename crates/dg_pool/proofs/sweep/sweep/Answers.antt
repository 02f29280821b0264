use Rattle.std.proofs.Common.{◌≡◌, ◌+◌, ◌<◌, sym, ap, ◌∙◌, subst, arith, length, is_some}
use Rattle.dg_cells.specs.Rows.{cell_at}
use Rattle.dg_pool.specs.Sweeps.{CellsSwept}
use Rattle.dg_pool.proofs.SweepCells.{swept_then, swept_vacant, below_more, below_same, none_from}
use Rattle.dg_pool.proofs.sweep.sweep.Goals as goal
use Rattle.dg_pool.proofs.sweep.sweep.Goals.{then-is_occupied+else-left-eq0, else-is_occupied}

pub loop-n-preserved : goal.loop-n-preserved
loop-n-preserved c =
    let slots = c.args.slots.now in
    let old = c.args.cells.now in
    let mid = c.loop-n.cells in
    let n = c.loop-n.n in
    let from = c.args.from in
    let inv = c.loop-n.invariant in
    let inside : n < length old = omega arith in
    let same : is_some (cell_at old n) ≡ c.is_occupied.result = sym (c.is_occupied.ensures ∙ ap is_some (inv.swept.behind n (omega arith))) in
    elim c.if-is_occupied.branch [
      | then-is_occupied+else-left-eq0 w ↦
          let more = below_more old n inside (same ∙ w.if-is_occupied.true) in
          record {
            swept = subst (λ l. CellsSwept slots old l from (n + 1)) (sym w.cells-is) (swept_then slots old mid w.sweep_cell.new.cells from n inv.low inv.swept (w.sweep_cell.ensures.swept slots c.requires c.masks_of-masks.ensures));
            len = ap length w.cells-is ∙ w.sweep_cell.ensures.len ∙ inv.len;
            low = omega arith;
            count = omega arith;
          }
      | else-is_occupied w ↦
          let more = below_same old n inside (same ∙ w.if-is_occupied.false) in
          let none = none_from (cell_at mid n) (sym c.is_occupied.ensures ∙ w.if-is_occupied.false) in
          record {
            swept = subst (λ l. CellsSwept slots old l from (n + 1)) (sym w.cells-is) (swept_then slots old mid mid from n inv.low inv.swept (swept_vacant slots mid n none));
            len = ap length w.cells-is ∙ inv.len;
            low = omega arith;
            count = omega arith;
          }
    ]
