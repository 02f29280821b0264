use Rattle.std.proofs.Common.{◌+◌, ◌-◌, ◌/◌, get_or, ap, arith}
use Rattle.std.specs.declared.cmp.Ordering.TheVariants.{Less, Equal, Greater}
use Rattle.std.specs.Ordering.{is_lt}
use Rattle.dg_graph.specs.declared.element.Element.TheVariants.{Node}
use Rattle.dg_graph.proofs.Sets.{before_from_Greater}
use Rattle.dg_set.proofs.Indices.{compared}
use Rattle.dg_set.proofs.Ranges.{narrowed_front, narrowed_back, range_none, range_one}
use Rattle.dg_set.proofs.search.range_within.Goals as goal

pub loop-low-preserved-in-Less : goal.loop-low-preserved-in-Less
loop-low-preserved-in-Less c =
    let xs = c.args.items.now in
    let x = c.args.element.now in
    let low = c.loop-low.low in
    let high = c.loop-low.high in
    let middle = low + (high - low) / 2 in
    let order = compared (get_or xs middle (Node 0)) x Less c.cmp.result c.cmp.ensures c.in-Less.is in
    record {
      within = narrowed_front x xs low high middle (Node 0) c.requires.set c.loop-low.invariant.within (omega arith) (omega arith) (ap is_lt order);
      behind = omega arith;
    }

pub returns-in-Equal-clause-range : goal.returns-in-Equal-clause-range
returns-in-Equal-clause-range c =
    let xs = c.args.items.now in
    let x = c.args.element.now in
    let low = c.loop-low.low in
    let high = c.loop-low.high in
    let middle = low + (high - low) / 2 in
    let order = compared (get_or xs middle (Node 0)) x Equal c.cmp.result c.cmp.ensures c.in-Equal.is in
    range_one x xs low high middle (Node 0) c.requires.set c.loop-low.invariant.within (omega arith) (omega arith) order

pub loop-low-preserved : goal.loop-low-preserved
loop-low-preserved c =
    let xs = c.args.items.now in
    let x = c.args.element.now in
    let low = c.loop-low.low in
    let high = c.loop-low.high in
    let middle = low + (high - low) / 2 in
    let order = compared (get_or xs middle (Node 0)) x Greater c.cmp.result c.cmp.ensures c.in-Greater.is in
    record {
      within = narrowed_back x xs low high middle (Node 0) c.requires.set c.loop-low.invariant.within (omega arith) (omega arith) (before_from_Greater (get_or xs middle (Node 0)) x order);
      behind = c.loop-low.invariant.behind;
    }

pub returns-clause-range : goal.returns-clause-range
returns-clause-range c = range_none c.args.element.now c.args.items.now c.loop-low.low c.loop-low.high c.loop-low.invariant.within c.loop-low-test.false
