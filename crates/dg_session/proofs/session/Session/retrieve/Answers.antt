use Rattle.std.proofs.Common.{length, sym, ap, subst}
use Rattle.dg_ask.specs.HeldIndex.{points_over}
use Rattle.dg_index.specs.OpenedIndex.{event_total}
use Rattle.dg_machine.specs.Planning.{bases_in}
use Rattle.dg_retrieval.specs.KeptGraph.{kept_ground}
use Rattle.dg_retrieval.specs.NamesThere.{EventNamesAreThere}
use Rattle.dg_session.specs.Parts.{Parts}
use Rattle.dg_session.specs.SessionState.{SessionState}
use Rattle.dg_session.proofs.DamageStep.{graph_damage_over}
use Rattle.dg_session.proofs.HandleBases.{all_begin}
use Rattle.dg_session.proofs.KeptPlannerGraphs.{IsPlanningIn, holds_in, planning_in}
use Rattle.dg_session.proofs.SessionLeads.{has_retrieved, retrieves_for}
use Rattle.dg_session.proofs.SessionRetrievals.{IsSession, instants_inside, is_session}
use Rattle.dg_session.proofs.session.Session.retrieve.Goals as goal

pub leads_at-requires-clause-there : goal.leads_at-requires-clause-there
leads_at-requires-clause-there g c =
    let p : Parts = c.args.self.now.parts in
    let view = ap (λ (x : SessionState). x.parts) c.self.view_is in
    let o = c.in-Some.index.opening in
    let cols = c.args.cols in
    let is : IsSession p o c.len.result c.deref.result.now = is_session p c.self.inside c.in-Some.index c.len.result c.deref.result.now view c.in-Some.is c.len.ensures.len c.deref.ensures.value in
    instants_inside p o c.args.times.now is.there c.requires.free

pub leads_at-requires-clause-edges : goal.leads_at-requires-clause-edges
leads_at-requires-clause-edges g c =
    let p : Parts = c.args.self.now.parts in
    let view = ap (λ (x : SessionState). x.parts) c.self.view_is in
    let o = c.in-Some.index.opening in
    let cols = c.args.cols in
    let graph : IsPlanningIn p o cols c.planner.result.now = planning_in p c.self.inside c.in-Some.index cols c.keep.new.self c.planner.result.now view c.in-Some.is c.self.invariant.1.handles.nodes c.keep.ensures.kept c.planner.ensures.planner in
    (bases_in cols p.table, graph.none, graph.edges)

pub leads_at-requires-clause-nodes : goal.leads_at-requires-clause-nodes
leads_at-requires-clause-nodes g c =
    let p : Parts = c.args.self.now.parts in
    let view = ap (λ (x : SessionState). x.parts) c.self.view_is in
    let o = c.in-Some.index.opening in
    let cols = c.args.cols in
    let graph : IsPlanningIn p o cols c.planner.result.now = planning_in p c.self.inside c.in-Some.index cols c.keep.new.self c.planner.result.now view c.in-Some.is c.self.invariant.1.handles.nodes c.keep.ensures.kept c.planner.ensures.planner in
    graph.nodes

pub returns-clause-done : goal.returns-clause-done
returns-clause-done g c =
    let p : Parts = c.args.self.now.parts in
    let view = ap (λ (x : SessionState). x.parts) c.self.view_is in
    let o = c.in-Some.index.opening in
    let cols = c.args.cols in
    let is : IsSession p o c.len.result c.deref.result.now = is_session p c.self.inside c.in-Some.index c.len.result c.deref.result.now view c.in-Some.is c.len.ensures.len c.deref.ensures.value in
    let inside = instants_inside p o c.args.times.now is.there c.requires.free in
    let graph : IsPlanningIn p o cols c.planner.result.now = planning_in p c.self.inside c.in-Some.index cols c.keep.new.self c.planner.result.now view c.in-Some.is c.self.invariant.1.handles.nodes c.keep.ensures.kept c.planner.ensures.planner in
    let holds = holds_in p c.self.inside cols view (c.facts.ensures.held cols) in
    has_retrieved p o c.args.times.now cols (g.D.Disk.image c.args.disk.now) c.len.result c.deref.result.now is inside c.planner.result.now.edges graph.edges holds c.leads_at.result
    (subst (λ n. EventNamesAreThere n c.deref.result.now) (sym c.len.ensures.len)
    (subst (λ es. EventNamesAreThere (length c.self.inside.held.live.history.names) es) (sym c.deref.ensures.value) c.self.invariant.1.live.sound.recent_named))
    (all_begin p.table cols (kept_ground o (event_total o.batches) cols (bases_in cols p.table)) holds c.leads_at.result c.len.result c.deref.result.now c.planner.result.now.edges o (points_over o c.deref.result.now c.args.times.now) c.args.times.now graph.edges c.leads_at.ensures.done)
    c.leads_at.ensures.done

pub returns-clause-over : goal.returns-clause-over
returns-clause-over g c =
    let p : Parts = c.args.self.now.parts in
    let view = ap (λ (x : SessionState). x.parts) c.self.view_is in
    let o = c.in-Some.index.opening in
    let cols = c.args.cols in
    let is : IsSession p o c.len.result c.deref.result.now = is_session p c.self.inside c.in-Some.index c.len.result c.deref.result.now view c.in-Some.is c.len.ensures.len c.deref.ensures.value in
    let inside = instants_inside p o c.args.times.now is.there c.requires.free in
    let graph : IsPlanningIn p o cols c.planner.result.now = planning_in p c.self.inside c.in-Some.index cols c.keep.new.self c.planner.result.now view c.in-Some.is c.self.invariant.1.handles.nodes c.keep.ensures.kept c.planner.ensures.planner in
    let holds = holds_in p c.self.inside cols view (c.facts.ensures.held cols) in
    retrieves_for p o c.args.times.now cols (g.D.Disk.image c.args.disk.now) c.len.result c.deref.result.now is inside c.planner.result.now.edges graph.edges holds c.law_heard_bytes_are_the_historys.ensures c.leads_at.result
    (g.D.Disk.taken c.args.disk.now) (g.D.Disk.taken c.leads_at.new.disk) c.leads_at.ensures.done c.leads_at.ensures.over

pub returns-clause-damage : goal.returns-clause-damage
returns-clause-damage g c =
    let p : Parts = c.args.self.now.parts in
    let view = ap (λ (x : SessionState). x.parts) c.self.view_is in
    let o = c.in-Some.index.opening in
    let cols = c.args.cols in
    let is : IsSession p o c.len.result c.deref.result.now = is_session p c.self.inside c.in-Some.index c.len.result c.deref.result.now view c.in-Some.is c.len.ensures.len c.deref.ensures.value in
    let inside = instants_inside p o c.args.times.now is.there c.requires.free in
    let graph : IsPlanningIn p o cols c.planner.result.now = planning_in p c.self.inside c.in-Some.index cols c.keep.new.self c.planner.result.now view c.in-Some.is c.self.invariant.1.handles.nodes c.keep.ensures.kept c.planner.ensures.planner in
    let holds = holds_in p c.self.inside cols view (c.facts.ensures.held cols) in
    graph_damage_over p o c.args.times.now cols (g.D.Disk.image c.args.disk.now) c.len.result c.deref.result.now c.leads_at.result is c.planner.result.now.edges graph.edges c.leads_at.ensures.damage
