use Rattle.std.proofs.Common.{◌≡◌, ℕ, List, [], ◌∷◌, length, map, refl, sym, ◌∙◌, ap, subst, arith}
use Rattle.std.specs.List.{All}
use Rattle.std.proofs.lemmas.List.Elements.{All-head}
use Rattle.dg_graph.specs.declared.element.Element.{Element}
use Rattle.dg_retrieval.specs.Beginnings.{GraphLead, begun_with, leads_in, led_to}
use Rattle.dg_retrieval.specs.NamesThere.{NamesAreThere}
use Rattle.dg_fold.specs.Writings.{composed_all, written_for}
use Rattle.dg_graph.specs.Composition.{applied}
use Rattle.dg_graph.specs.Elements.{shown}
use Rattle.dg_session.proofs.GatheredGraphs.{as_many, one_graph}
use Rattle.dg_session.proofs.GraphNames.{there_held, there_led}
use Rattle.dg_session.specs.contracts.session.Session.{the_view}
use Rattle.dg_session.specs.Parts.{Parts}
use Rattle.dg_session.specs.Reads.{listed_by}
use Rattle.dg_session.specs.SessionState.{SessionState}
use Rattle.dg_session.proofs.session.Session.gathered.Goals as goal

pub index-requires : goal.index-requires
index-requires c = omega (arith, c.requires.one, as_many 0 c.args.leads.begins.items c.args.leads.writings.items)

pub returns-clause-shown : goal.returns-clause-shown
returns-clause-shown c =
    let v : Parts = (the_view c.self.inside).parts in
    let leads = c.args.leads in
    let cols = c.args.cols in
    let set : List Element = shown (applied (composed_all (written_for 0 leads.writings.items)) c.in_ok-base.base) cols in
    let count : length leads.begins.items ≡ 1 = sym (as_many 0 leads.begins.items leads.writings.items) ∙ c.requires.one in
    subst (λ (x : SessionState). map (led_to x.parts.graph (listed_by x.parts) cols) (leads_in leads) ≡ set ∷ []) c.self.view_is
    (one_graph v.graph (listed_by v) cols leads.writings.items c.in_ok-base.base set leads.begins.items c.index.result.now count (c.in_ok-base.ensures ∙ ap (begun_with v.graph (listed_by v)) c.index.ensures) refl)

pub returns-clause-named : goal.returns-clause-named
returns-clause-named c =
    let v : Parts = (the_view c.self.inside).parts in
    let leads = c.args.leads in
    let cols = c.args.cols in
    let n : ℕ = length v.names in
    let set : List Element = shown (applied (composed_all (written_for 0 leads.writings.items)) c.in_ok-base.base) cols in
    let count : length leads.begins.items ≡ 1 = sym (as_many 0 leads.begins.items leads.writings.items) ∙ c.requires.one in
    let shows : map (led_to v.graph (listed_by v) cols) (leads_in leads) ≡ set ∷ [] =
    one_graph v.graph (listed_by v) cols leads.writings.items c.in_ok-base.base set leads.begins.items c.index.result.now count (c.in_ok-base.ensures ∙ ap (begun_with v.graph (listed_by v)) c.index.ensures) refl in
    let there : All (NamesAreThere n) (map (led_to v.graph (listed_by v) cols) (leads_in leads)) =
    there_led n v.graph (listed_by v) cols c.self.invariant.1.live.sound.named (there_held n v.table v.graphs c.self.invariant.1.handles.named) (leads_in leads)
    (subst (λ (x : SessionState). All (λ (l : GraphLead). NamesAreThere (length x.parts.names) l.delta.plus) (leads_in leads)) (sym c.self.view_is) c.requires.named) in
    subst (λ (x : SessionState). NamesAreThere (length x.parts.names) set) c.self.view_is
    (All-head (NamesAreThere n) set [] (subst (All (NamesAreThere n)) shows there))
