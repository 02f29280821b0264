use Rattle.std.proofs.Common.{length, get_or, ap, arith}
use Rattle.std.specs.declared.cmp.Ordering.TheVariants.{Less, Equal, Greater}
use Rattle.std.specs.Ordering.{is_lt}
use Rattle.dg_graph.specs.declared.element.Element.TheVariants.{Node}
use Rattle.dg_graph.proofs.Sets.{before_from_Greater}
use Rattle.dg_set.proofs.Indices.{compared}
use Rattle.dg_set.proofs.Ranges.{narrowed_front, narrowed_back, range_none, range_one}
use Rattle.dg_set.proofs.replace.range_near.Goals as goal

pub returns-in-Equal : goal.returns-in-Equal
returns-in-Equal c =
    let xs = c.args.items.now in
    let x = c.args.element.now in
    let index = c.loop-index.index in
    let order = compared (get_or xs index (Node 0)) x Equal c.cmp.result c.cmp.ensures c.in-Equal.is in
    range_one x xs index (length xs) index (Node 0) c.requires c.loop-index.invariant (omega arith) (omega arith) order

pub returns-in-Greater : goal.returns-in-Greater
returns-in-Greater c =
    let xs = c.args.items.now in
    let x = c.args.element.now in
    let index = c.loop-index.index in
    let order = compared (get_or xs index (Node 0)) x Greater c.cmp.result c.cmp.ensures c.in-Greater.is in
    let nearer = narrowed_back x xs index (length xs) index (Node 0) c.requires c.loop-index.invariant (omega arith) (omega arith) (before_from_Greater (get_or xs index (Node 0)) x order) in
    range_none x xs index index nearer (omega arith)

pub loop-index-preserved : goal.loop-index-preserved
loop-index-preserved c =
    let xs = c.args.items.now in
    let x = c.args.element.now in
    let index = c.loop-index.index in
    let order = compared (get_or xs index (Node 0)) x Less c.cmp.result c.cmp.ensures c.in-Less.is in
    narrowed_front x xs index (length xs) index (Node 0) c.requires c.loop-index.invariant (omega arith) (omega arith) (ap is_lt order)
