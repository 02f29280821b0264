use Rattle.std.proofs.Common.{◌∙◌, ap, arith}
use Rattle.dg_heard.specs.Heard.{list_total}
use Rattle.dg_index.specs.Hierarchy.{numbers}
use Rattle.dg_range.specs.ColumnRuns.{bytes_along}
use Rattle.dg_range.specs.ListValues.{node_columns}
use Rattle.dg_range.proofs.ValueBytes.{value_bytes_next, values_within}
use Rattle.dg_range.proofs.ValueRuns.{lists_all, lists_end, lists_next}
use Rattle.dg_range.proofs.values.values_bytes.Goals as goal

pub loop-list-init : goal.loop-list-init
loop-list-init c =
    let o = c.args.index.now.opening in
    record {
      few = omega arith;
      all = omega (arith, ap (λ l. bytes_along o (node_columns l)) (lists_all c.list_total-total.result ∙ ap (numbers 0) c.list_total-total.ensures));
    }

pub loop-list-preserved : goal.loop-list-preserved
loop-list-preserved c =
    let o = c.args.index.now.opening in
    let step = value_bytes_next o _ _ c.loop-list.list (lists_next c.loop-list.list c.list_total-total.result c.loop-list-test.true) in
    record {
      few = omega (arith, c.loop-list-test.true);
      all = omega (arith, step, c.list_value_bytes-bytes.ensures, c.loop-list.invariant.all);
    }

pub overflow_add-bytes : goal.overflow_add-bytes
overflow_add-bytes c =
    let o = c.args.index.now.opening in
    let step = value_bytes_next o _ _ c.loop-list.list (lists_next c.loop-list.list c.list_total-total.result c.loop-list-test.true) in
    omega (arith, step, c.list_value_bytes-bytes.ensures, c.loop-list.invariant.all, values_within o 0 (list_total o), c.facts.ensures.columns, c.facts.ensures.within)

pub returns : goal.returns
returns c =
    let o = c.args.index.now.opening in
    let rest = ap (λ l. bytes_along o (node_columns l)) (lists_end c.loop-list.list c.list_total-total.result c.loop-list-test.false) in
    omega (arith, rest, c.loop-list.invariant.all)
