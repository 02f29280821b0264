use Rattle.std.proofs.Common.{map, ap, ◌∙◌, arith}
use Rattle.std.proofs.lemmas.List.{get_or_default}
use Rattle.dg_graph.specs.declared.element.Element.TheVariants as element
use Rattle.dg_current.proofs.SortedGraphs.{nodes_more, are_nodes, no_later_node, past}
use Rattle.dg_current.proofs.graph_test.node_ids.Goals as goal
use Rattle.dg_current.proofs.graph_test.node_ids.Goals.{else-loop-element-test, then-loop-element-test+in_default}

pub returns : goal.returns
returns c =
    let xs = c.args.items.now in
    let i = c.loop-element.element-index in
    are_nodes xs c.requires c.loop-element.nodes.items i c.loop-element.auto.element-index-end c.loop-element.invariant
    (λ k d n from end is.
    elim c.loop-element-test.branch [
      | else-loop-element-test w ↦ let over = w.loop-element-test.false in absurd (omega arith)
      | then-loop-element-test+in_default w ↦ no_later_node xs c.requires i k d n from end is (λ m read. w.in_default.not-Node m (get_or_default xs i past d w.loop-element-test.true ∙ read))
    ])

pub loop-element-preserved : goal.loop-element-preserved
loop-element-preserved c =
    ap (map element.Node) c.in_ok-push-in-Node.ensures.items
    ∙ nodes_more c.args.items.now c.loop-element.nodes.items c.loop-element.element-index c.in-Node.id c.loop-element-test.true c.loop-element.invariant c.in-Node.is
