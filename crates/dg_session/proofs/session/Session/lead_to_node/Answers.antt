use Rattle.std.proofs.Common.{[], ◌∷◌, refl, ap}
use Rattle.dg_session.specs.Damage.{node_readings}
use Rattle.dg_session.specs.Parts.{Parts}
use Rattle.dg_session.specs.SessionState.{SessionState}
use Rattle.dg_session.proofs.DamageStep.{damage_over, tree_tells}
use Rattle.dg_session.proofs.SessionNodeStep.{holds_node_for, node_named}
use Rattle.dg_session.proofs.SessionRetrievals.{IsSession, is_session}
use Rattle.dg_session.proofs.session.Session.lead_to_node.Goals as goal

pub returns-clause-named : goal.returns-clause-named
returns-clause-named g c =
    let p : Parts = c.args.self.now.parts in
    let is : IsSession p c.in-Some.index.opening c.len.result c.self.inside.held.live.history.recent.items =
    is_session p c.self.inside c.in-Some.index c.len.result c.self.inside.held.live.history.recent.items (ap (λ (x : SessionState). x.parts) c.self.view_is) c.in-Some.is c.len.ensures.len refl in
    node_named p c.in-Some.index.opening c.args.node c.args.cols (g.D.Disk.image c.args.disk.now) c.len.result is.there is.count c.node_lead.result c.node_lead.ensures.done

pub returns-clause-over : goal.returns-clause-over
returns-clause-over g c =
    let p : Parts = c.args.self.now.parts in
    let is : IsSession p c.in-Some.index.opening c.len.result c.self.inside.held.live.history.recent.items =
    is_session p c.self.inside c.in-Some.index c.len.result c.self.inside.held.live.history.recent.items (ap (λ (x : SessionState). x.parts) c.self.view_is) c.in-Some.is c.len.ensures.len refl in
    holds_node_for p c.in-Some.index.opening c.args.node c.args.cols (g.D.Disk.image c.args.disk.now) c.len.result is.there is.count c.node_lead.result
    (g.D.Disk.taken c.args.disk.now) (g.D.Disk.taken c.node_lead.new.disk) c.node_lead.ensures.done c.node_lead.ensures.over

pub returns-clause-damage : goal.returns-clause-damage
returns-clause-damage g c =
    let p : Parts = c.args.self.now.parts in
    let is : IsSession p c.in-Some.index.opening c.len.result c.self.inside.held.live.history.recent.items =
    is_session p c.self.inside c.in-Some.index c.len.result c.self.inside.held.live.history.recent.items (ap (λ (x : SessionState). x.parts) c.self.view_is) c.in-Some.is c.len.ensures.len refl in
    damage_over (node_readings c.args.node c.args.cols) p c.in-Some.index.opening (g.D.Disk.image c.args.disk.now) c.len.result c.node_lead.result is.there is.count c.node_lead.ensures.damage
    (λ bytes d. tree_tells c.len.result _ c.in-Some.index.opening c.args.cols (c.args.node ∷ []) bytes c.node_lead.result d)
