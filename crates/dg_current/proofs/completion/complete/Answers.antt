use Rattle.std.proofs.Common.{sym, ap, ◌∙◌}
use Rattle.dg_graph.specs.Completion.{complete}
use Rattle.dg_current.proofs.completion.complete.Goals as goal

pub returns-in-AddEdge : goal.returns-in-AddEdge
returns-in-AddEdge c = c.add_edge.ensures ∙ ap (λ w. complete w c.args.graph.now.set) (sym c.in-AddEdge.is)

pub returns-in-SetNode : goal.returns-in-SetNode
returns-in-SetNode c = c.set_node.ensures ∙ ap (λ w. complete w c.args.graph.now.set) (sym c.in-SetNode.is)

pub returns-in-UnsetNode : goal.returns-in-UnsetNode
returns-in-UnsetNode c = c.unset_node.ensures ∙ ap (λ w. complete w c.args.graph.now.set) (sym c.in-UnsetNode.is)

pub returns-in-SetEdge : goal.returns-in-SetEdge
returns-in-SetEdge c = c.set_edge.ensures ∙ ap (λ w. complete w c.args.graph.now.set) (sym c.in-SetEdge.is)

pub returns-in-UnsetEdge : goal.returns-in-UnsetEdge
returns-in-UnsetEdge c = c.unset_edge.ensures ∙ ap (λ w. complete w c.args.graph.now.set) (sym c.in-UnsetEdge.is)

pub returns-in-Message : goal.returns-in-Message
returns-in-Message c = c.message.ensures ∙ ap (λ w. complete w c.args.graph.now.set) (sym c.in-Message.is)
