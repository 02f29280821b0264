use Rattle.std.proofs.Common.{◌++◌, ◌∷◌, [], ℕ, List, sym, ap, ◌∙◌}
use Rattle.dg_cells.proofs.OrderNumbers.{below_more}
use Rattle.dg_cells.proofs.cell_fill.numbers_below.Goals as goal

pub loop-n-preserved : goal.loop-n-preserved
loop-n-preserved c =
    let n = c.loop-n.n in
    c.in_ok-push.ensures.items
    ∙ ap (λ (l : List ℕ). l ++ n ∷ []) c.loop-n.invariant
    ∙ sym (below_more n)
