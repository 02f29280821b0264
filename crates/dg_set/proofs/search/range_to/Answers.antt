use Rattle.std.proofs.Common.{◌-◌, get_or, ap, arith}
use Rattle.std.specs.declared.cmp.Ordering.TheVariants.{Less, Equal, Greater}
use Rattle.std.specs.Ordering.{is_lt}
use Rattle.dg_graph.specs.declared.element.Element.TheVariants.{Node}
use Rattle.dg_graph.proofs.Sets.{before_from_Greater}
use Rattle.dg_set.proofs.Indices.{compared}
use Rattle.dg_set.proofs.Ranges.{narrowed_front, narrowed_back, range_one}
use Rattle.dg_set.proofs.search.range_to.Goals as goal

pub range_within-requires-clause-within : goal.range_within-requires-clause-within
range_within-requires-clause-within c =
    let xs = c.args.items.now in
    let x = c.args.element.now in
    let high = c.loop-step.high in
    let probe = high - c.loop-step.step in
    let some = c.loop-step.invariant.some in
    let order = compared (get_or xs probe (Node 0)) x Less c.cmp.result c.cmp.ensures c.in-Less.is in
    narrowed_front x xs 0 high probe (Node 0) c.requires c.loop-step.invariant.near (omega arith) (omega arith) (ap is_lt order)

pub returns-in-Equal : goal.returns-in-Equal
returns-in-Equal c =
    let xs = c.args.items.now in
    let x = c.args.element.now in
    let high = c.loop-step.high in
    let probe = high - c.loop-step.step in
    let some = c.loop-step.invariant.some in
    let order = compared (get_or xs probe (Node 0)) x Equal c.cmp.result c.cmp.ensures c.in-Equal.is in
    range_one x xs 0 high probe (Node 0) c.requires c.loop-step.invariant.near (omega arith) (omega arith) order

pub loop-step-preserved : goal.loop-step-preserved
loop-step-preserved c =
    let xs = c.args.items.now in
    let x = c.args.element.now in
    let high = c.loop-step.high in
    let probe = high - c.loop-step.step in
    let some = c.loop-step.invariant.some in
    let order = compared (get_or xs probe (Node 0)) x Greater c.cmp.result c.cmp.ensures c.in-Greater.is in
    record {
      near = narrowed_back x xs 0 high probe (Node 0) c.requires c.loop-step.invariant.near (omega arith) (omega arith) (before_from_Greater (get_or xs probe (Node 0)) x order);
      some = omega arith;
    }
