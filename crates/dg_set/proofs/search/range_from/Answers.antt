use Rattle.std.proofs.Common.{◌+◌, ◌-◌, ◌≡◌, length, get_or, ap, subst, arith}
use Rattle.std.specs.declared.cmp.Ordering.TheVariants.{Less, Equal, Greater}
use Rattle.std.specs.Ordering.{is_lt}
use Rattle.dg_graph.specs.declared.element.Element.TheVariants.{Node}
use Rattle.dg_graph.proofs.Sets.{before_from_Greater}
use Rattle.dg_set.specs.Indices.{IsWithin}
use Rattle.dg_set.proofs.Indices.{compared}
use Rattle.dg_set.proofs.Ranges.{narrowed_front, narrowed_back, range_one}
use Rattle.dg_set.proofs.search.range_from.Goals as goal

pub loop-step-preserved : goal.loop-step-preserved
loop-step-preserved c =
    let xs = c.args.items.now in
    let x = c.args.element.now in
    let low = c.loop-step.low in
    let probe = low + c.loop-step.step - 1 in
    let some = c.loop-step.invariant.some in
    let order = compared (get_or xs probe (Node 0)) x Less c.cmp.result c.cmp.ensures c.in-Less.is in
    let near = narrowed_front x xs low (length xs) probe (Node 0) c.requires.set c.loop-step.invariant.near (omega arith) (omega arith) (ap is_lt order) in
    let next : probe + 1 ≡ low + c.loop-step.step = omega arith in
    record { near = subst (λ n. IsWithin x xs n (length xs)) next near; some = omega arith; behind = omega arith }

pub returns-in-Equal-clause-range : goal.returns-in-Equal-clause-range
returns-in-Equal-clause-range c =
    let xs = c.args.items.now in
    let x = c.args.element.now in
    let low = c.loop-step.low in
    let probe = low + c.loop-step.step - 1 in
    let some = c.loop-step.invariant.some in
    let order = compared (get_or xs probe (Node 0)) x Equal c.cmp.result c.cmp.ensures c.in-Equal.is in
    range_one x xs low (length xs) probe (Node 0) c.requires.set c.loop-step.invariant.near (omega arith) (omega arith) order

pub range_within-requires-clause-within : goal.range_within-requires-clause-within
range_within-requires-clause-within c =
    let xs = c.args.items.now in
    let x = c.args.element.now in
    let low = c.loop-step.low in
    let probe = low + c.loop-step.step - 1 in
    let some = c.loop-step.invariant.some in
    let order = compared (get_or xs probe (Node 0)) x Greater c.cmp.result c.cmp.ensures c.in-Greater.is in
    narrowed_back x xs low (length xs) probe (Node 0) c.requires.set c.loop-step.invariant.near (omega arith) (omega arith) (before_from_Greater (get_or xs probe (Node 0)) x order)
