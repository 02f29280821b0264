use Rattle.std.proofs.Common.{◌≡◌, false, subst}
use Rattle.dg_current.specs.HeldGraph.{HeldGraphState, knows}
use Rattle.dg_current.specs.ElementIds.{at}
use Rattle.dg_current.proofs.HeldGraph.{kept_unknown}
use Rattle.dg_current.proofs.held_graph.HeldGraph.facts.Goals as goal

pub returns-clause-unknown : goal.returns-clause-unknown
returns-clause-unknown c = λ p.
    subst (λ (h : HeldGraphState). knows h p ≡ false → at h.set p ≡ at h.base p) c.self.view_is
    (kept_unknown c.self.inside.base c.self.inside.elements.entries c.self.invariant.0.own_ids p)
