use Rattle.std.proofs.Common.{◌≡◌, take, map}
use Rattle.dg_graph.specs.declared.element.Element.TheVariants as element
use Rattle.dg_current.proofs.graph_test.node_ids.Given as goal

abbrev pub invariant-loop-element : goal.invariant-loop-element
invariant-loop-element l = map element.Node l.nodes.items ≡ take l.element-index l.items
