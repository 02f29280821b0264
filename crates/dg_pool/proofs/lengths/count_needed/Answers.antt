use Rattle.std.proofs.Common.{sym, ap, ◌∙◌, arith}
use Rattle.std.specs.List.{count_by}
use Rattle.std.proofs.lemmas.List.{take_all}
use Rattle.dg_pool.specs.Sweeps.{passes_test, is_needed}
use Rattle.dg_pool.proofs.GraphSizes.{length-picked}
use Rattle.dg_pool.proofs.lengths.count_needed.Goals as goal

pub returns : goal.returns
returns c =
    let cells = c.args.cells.now in
    let slots = c.args.slots.now in
    c.loop-n.invariant ∙ ap (count_by (passes_test (is_needed slots))) (take_all c.loop-n.n cells (omega arith))
    ∙ sym (length-picked (is_needed slots) cells c.requires.apart)
