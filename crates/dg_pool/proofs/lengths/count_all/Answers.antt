use Rattle.std.proofs.Common.{true, sym, ap, ◌∙◌, arith}
use Rattle.std.specs.List.{count_by}
use Rattle.std.proofs.lemmas.List.{take_all}
use Rattle.dg_cells.specs.Rows.{Row}
use Rattle.dg_pool.specs.Sweeps.{passes_test}
use Rattle.dg_pool.proofs.GraphSizes.{length-picked}
use Rattle.dg_pool.proofs.lengths.count_all.Goals as goal

pub returns : goal.returns
returns c =
    let cells = c.args.cells.now in
    c.loop-n.invariant ∙ ap (count_by (passes_test (λ (r : Row). true))) (take_all c.loop-n.n cells (omega arith))
    ∙ sym (length-picked (λ (r : Row). true) cells c.requires)
