use Rattle.std.proofs.Common.{ap, sym, ◌∙◌}
use Rattle.dg_graph.specs.DifferentialFunction.{canonical, fnv}
use Rattle.dg_diff.proofs.hash.hash.Goals as goal

pub returns-in-Edge : goal.returns-in-Edge
returns-in-Edge c = c.hash_edge.ensures ∙ sym (ap (λ x. fnv (canonical x)) c.in-Edge.is)

pub returns-in-NodeAttr : goal.returns-in-NodeAttr
returns-in-NodeAttr c = c.hash_attribute.ensures ∙ sym (ap (λ x. fnv (canonical x)) c.in-NodeAttr.is)

pub returns-in-EdgeAttr : goal.returns-in-EdgeAttr
returns-in-EdgeAttr c = c.hash_attribute-in-EdgeAttr.ensures ∙ sym (ap (λ x. fnv (canonical x)) c.in-EdgeAttr.is)

pub returns-in-Message : goal.returns-in-Message
returns-in-Message c = c.hash_message.ensures ∙ sym (ap (λ x. fnv (canonical x)) c.in-Message.is)
