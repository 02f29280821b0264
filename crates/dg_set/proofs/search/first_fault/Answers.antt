use Rattle.std.proofs.Common.{ap, ◌∙◌, sym, get_or, ◌-◌}
use Rattle.std.specs.Ordering.{is_ge}
use Rattle.dg_graph.specs.declared.element.Element.TheVariants.{Node}
use Rattle.dg_set.proofs.Indices.{rises_past, fault_at}
use Rattle.dg_set.proofs.search.first_fault.Goals as goal

pub loop-index-preserved : goal.loop-index-preserved
loop-index-preserved c =
    let xs = c.args.items.now in
    let index = c.loop-index.index in
    let x = get_or xs (index - 1) (Node 0) in
    let y = get_or xs index (Node 0) in
    rises_past xs index (Node 0) c.loop-index.auto.index c.loop-index-test.true c.loop-index.invariant
    (ap is_ge (sym c.cmp.ensures) ∙ sym c.is_ge.ensures ∙ c.if-is_ge.false)

pub returns-then-is_ge-clause-fault : goal.returns-then-is_ge-clause-fault
returns-then-is_ge-clause-fault c =
    let xs = c.args.items.now in
    let index = c.loop-index.index in
    let x = get_or xs (index - 1) (Node 0) in
    let y = get_or xs index (Node 0) in
    fault_at xs index (Node 0) c.loop-index.auto.index c.loop-index-test.true c.loop-index.invariant
    (ap is_ge (sym c.cmp.ensures) ∙ sym c.is_ge.ensures ∙ c.if-is_ge.true)
