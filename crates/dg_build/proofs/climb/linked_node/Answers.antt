use Rattle.std.proofs.Common.{List, length, ap, arith, length-drop}
use Rattle.dg_graph.specs.Composition.{Delta}
use Rattle.dg_build.proofs.climb.linked_node.Goals as goal

pub interior_node-requires-clause-there : goal.interior_node-requires-clause-there
interior_node-requires-clause-there c = omega (arith, c.requires.there, ap (λ (l : List Delta). length l) c.in_ok-step.ensures.rest, length-drop 1 c.args.row.now.items)
