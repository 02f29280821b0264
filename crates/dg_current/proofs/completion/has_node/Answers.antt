use Rattle.std.proofs.Common.{is_some, ap, ◌∙◌}
use Rattle.dg_current.proofs.ElementIds.{has_node_is}
use Rattle.dg_current.proofs.completion.has_node.Goals as goal

pub returns : goal.returns
returns c = c.is_some.ensures ∙ ap is_some c.element_at.ensures ∙ has_node_is c.args.graph.now.set c.args.id
