use Rattle.std.proofs.Common.{◌≡◌, ◌∷◌, [], length, map, sym, subst}
use Rattle.std.specs.List.{All}
use Rattle.dg_gather.specs.Gathered.{shown_by}
use Rattle.dg_records.specs.declared.fault.RecordFault.TheVariants as fault
use Rattle.dg_retrieval.specs.Beginnings.{GraphLead, leads_in, led_to}
use Rattle.dg_retrieval.specs.NamesThere.{NamesAreThere}
use Rattle.dg_session.specs.Damage.{MeetsOver, Tells, graph_readings}
use Rattle.dg_session.specs.Parts.{Parts}
use Rattle.dg_session.specs.Reads.{listed_by}
use Rattle.dg_session.specs.SessionState.{SessionState}
use Rattle.dg_session.proofs.GatheredGraphs.{Gathers, gathered_is, memory_lacks, retrieval_fails}
use Rattle.dg_session.proofs.SessionSteps.{handed_out}
use Rattle.dg_session.proofs.session.Session.gather.Goals as goal

pub gathered-requires-clause-named : goal.gathered-requires-clause-named
gathered-requires-clause-named g c =
    subst (λ (x : SessionState). All (λ (l : GraphLead). NamesAreThere (length x.parts.names) l.delta.plus) (leads_in c.in_ok-leads.field-0.leads)) (sym c.retrieve.ensures.same) c.in_ok-leads.ensures.done.named

pub returns-in_err-leads-clause-over : goal.returns-in_err-leads-clause-over
returns-in_err-leads-clause-over g c =
    let p : Parts = c.args.self.now.parts in
    let told = g.D.Disk.image c.args.disk.now in
    let before = g.D.Disk.taken c.args.disk.now in
    let after = g.D.Disk.taken c.retrieve.new.disk in
    handed_out c.from_residual.result c.in_err-leads.field-0.0 (Gathers p c.args.t c.args.cols told before after) c.from_residual.ensures
    (retrieval_fails p c.args.t c.args.cols told before after c.in_err-leads.field-0.0 c.in_err-leads.ensures.over)

pub returns-in_err-leads-clause-damage : goal.returns-in_err-leads-clause-damage
returns-in_err-leads-clause-damage g c =
    let p : Parts = c.args.self.now.parts in
    let told = g.D.Disk.image c.args.disk.now in
    handed_out c.from_residual.result c.in_err-leads.field-0.0 (λ r. Tells (MeetsOver (graph_readings (c.args.t ∷ []) c.args.cols) p told) r) c.from_residual.ensures c.in_err-leads.ensures.damage

pub returns-in_err-gathered-clause-over : goal.returns-in_err-gathered-clause-over
returns-in_err-gathered-clause-over g c =
    let p : Parts = c.args.self.now.parts in
    let told = g.D.Disk.image c.args.disk.now in
    let before = g.D.Disk.taken c.args.disk.now in
    let after = g.D.Disk.taken c.retrieve.new.disk in
    handed_out c.from_residual-in_err-gathered.result fault.Memory (Gathers p c.args.t c.args.cols told before after) c.from_residual-in_err-gathered.ensures
    (memory_lacks p c.args.t c.args.cols told before after c.in_ok-leads.field-0 c.in_ok-leads.ensures.over)

pub returns-in_err-gathered-clause-damage : goal.returns-in_err-gathered-clause-damage
returns-in_err-gathered-clause-damage g c =
    let p : Parts = c.args.self.now.parts in
    let told = g.D.Disk.image c.args.disk.now in
    handed_out c.from_residual-in_err-gathered.result fault.Memory (λ r. Tells (MeetsOver (graph_readings (c.args.t ∷ []) c.args.cols) p told) r) c.from_residual-in_err-gathered.ensures tt

pub returns-clause-over : goal.returns-clause-over
returns-clause-over g c =
    let p : Parts = c.args.self.now.parts in
    let told = g.D.Disk.image c.args.disk.now in
    let x = c.in_ok-leads.field-0 in
    gathered_is p c.args.t c.args.cols told (g.D.Disk.taken c.args.disk.now) (g.D.Disk.taken c.retrieve.new.disk) x c.in_ok-gathered.field-0 c.in_ok-leads.ensures.over
    (subst (λ (s : SessionState). map (led_to s.parts.graph (listed_by s.parts) c.args.cols) (leads_in x.leads) ≡ shown_by c.in_ok-gathered.field-0 ∷ []) c.retrieve.ensures.same c.in_ok-gathered.ensures.shown)
    c.in_ok-gathered.ensures.weight

pub returns-clause-named : goal.returns-clause-named
returns-clause-named g c =
    subst (λ (s : SessionState). NamesAreThere (length s.parts.names) (shown_by c.in_ok-gathered.field-0)) c.retrieve.ensures.same c.in_ok-gathered.ensures.named

pub returns-clause-damage : goal.returns-clause-damage
returns-clause-damage g c = c.in_ok-leads.ensures.damage
