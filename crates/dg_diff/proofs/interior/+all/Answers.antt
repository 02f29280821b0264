use Rattle.std.proofs.Common.{subst}
use Rattle.std.proofs.lemmas.Result.{IfOk-weaker}
use Rattle.dg_graph.specs.Elements.{IsSet}
use Rattle.dg_diff.specs.Sides.{on_side}
use Rattle.dg_diff.proofs.DifferentialFunctionDeltas.{all_halves}
use Rattle.dg_diff.proofs.interior.+all.Goals as goal

pub returns : goal.returns
returns t c =
    let side = on_side c.args.side in
    let ways = c.args.ways.now in
    let way = c.index-ways-0 in
    let first = c.of-first in
    IfOk-weaker c.union-4.result _ _
    (λ set is. all_halves side ways c.split_at.result.0.now c.split_at.result.1.now way.result c.in_ok-all.field-0 c.in_ok-all-2.field-0 set
    c.requires c.split_at.ensures.by_index.0 (subst (λ w. IsSet (side w)) way.is (subst IsSet first.ensures.value first.ensures.set))
    c.in_ok-all.ensures c.in_ok-all-2.ensures is)
    c.union-4.ensures.value
