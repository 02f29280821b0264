use Rattle.std.proofs.Common.{take, arith}
use Rattle.std.proofs.lemmas.List.{length-take}
use Rattle.std.proofs.lemmas.List.Sums.{count_by-le-length}
use Rattle.dg_current.specs.Sorted.{has_end}
use Rattle.dg_current.proofs.ends.count_edges.Goals as goal

pub overflow_add-count : goal.overflow_add-count
overflow_add-count c =
    let items = c.args.items.now in
    let i = c.loop-element.element-index in
    omega (arith, count_by-le-length (has_end c.args.id) (take i items), length-take i items, c.loop-element.invariant)
