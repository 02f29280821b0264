use Rattle.std.proofs.Common.{◌≡◌, true, ap, ◌∙◌}
use Rattle.dg_cells.specs.Rows.{new_rows}
use Rattle.dg_query.specs.Queries.{counts_of}
use Rattle.dg_pool.proofs.GraphWholeSet.{now_whole, cells_whole, whole_pool}
use Rattle.dg_pool.proofs.pool.Pool.from_set.Goals as goal
use Rattle.dg_pool.proofs.pool.Pool.from_set.Goals.{After-all_free}

rows_are : (c : After-all_free) → c.in_ok-cells.cells ≡ new_rows true c.args.set.now
rows_are c = c.in_ok-cells.ensures ∙ ap (new_rows true) c.items.ensures.value

pub invariant_of-result : goal.invariant_of-result
invariant_of-result c =
    let counted = c.count_kinds.ensures ∙ ap counts_of c.items-2.ensures.value in
    whole_pool c.args.set.now c.in_ok-cells.cells c.items.ensures.set (rows_are c) c.all_free.result c.no_counts-counts.result c.count_kinds.result c.facts.ensures c.all_free.ensures.count c.all_free.ensures.free c.no_counts-counts.ensures.len counted

pub returns-clause-now : goal.returns-clause-now
returns-clause-now c = now_whole c.args.set.now c.in_ok-cells.cells c.items.ensures.set (rows_are c)

pub returns-clause-cells : goal.returns-clause-cells
returns-clause-cells c = cells_whole c.args.set.now c.in_ok-cells.cells c.items.ensures.set (rows_are c)
