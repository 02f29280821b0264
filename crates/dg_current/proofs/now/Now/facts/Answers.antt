use Rattle.std.proofs.Common.{subst}
use Rattle.dg_graph.specs.ExactEvents.{AreChangesOf}
use Rattle.dg_current.specs.EventEffect.{rewound}
use Rattle.dg_current.specs.Now.{NowState}
use Rattle.dg_current.proofs.NowState.{happen_changes}
use Rattle.dg_current.proofs.now.Now.facts.Goals as goal

pub returns-clause-changes : goal.returns-clause-changes
returns-clause-changes c =
    let events = c.self.inside.pending.items in
    subst (λ (s : NowState). AreChangesOf s.graph s.pending) c.self.view_is
    (happen_changes (rewound c.self.inside.held.set events) events c.self.invariant.graph c.self.invariant.happen)
