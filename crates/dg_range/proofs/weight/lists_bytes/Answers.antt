use Rattle.std.proofs.Common.{◌≡◌, ◌∙◌, arith}
use Rattle.std.specs.List.{sum_by}
use Rattle.std.specs.Prelude.{◌-◌}
use Rattle.dg_index.specs.Hierarchy.{numbers}
use Rattle.dg_range.specs.Weights.{list_bytes}
use Rattle.dg_range.proofs.AddedWeights.{lists_weigh}
use Rattle.dg_range.proofs.Weights.{lists_within, next_list, no_list}
use Rattle.dg_range.proofs.weight.lists_bytes.Goals as goal

pub loop-list-preserved : goal.loop-list-preserved
loop-list-preserved c =
    let o = c.args.index.now.opening in
    let step = next_list o c.args.cols c.loop-list.list c.args.high c.loop-list-test.true in
    record {
      few = omega (arith, c.loop-list-test.true);
      all = omega (arith, step, c.list_bytes-bytes.ensures, c.loop-list.invariant.all);
    }

pub overflow_add-bytes : goal.overflow_add-bytes
overflow_add-bytes c =
    let o = c.args.index.now.opening in
    let step = next_list o c.args.cols c.loop-list.list c.args.high c.loop-list-test.true in
    omega (arith, step, c.list_bytes-bytes.ensures, c.loop-list.invariant.all, lists_within o c.args.cols c.args.low (c.args.high - c.args.low), c.facts.ensures.columns, c.facts.ensures.within)

pub returns : goal.returns
returns c =
    let o = c.args.index.now.opening in
    let rest = no_list o c.args.cols c.loop-list.list c.args.high c.loop-list-test.false in
    let all : c.loop-list.bytes ≡ sum_by (list_bytes o c.args.cols) (numbers c.args.low (c.args.high - c.args.low)) = omega (arith, rest, c.loop-list.invariant.all) in
    record {
      bytes = all;
      within = omega (arith, all, lists_within o c.args.cols c.args.low (c.args.high - c.args.low), c.facts.ensures.columns, c.facts.ensures.within);
      along = all ∙ lists_weigh o c.args.cols (numbers c.args.low (c.args.high - c.args.low));
    }
