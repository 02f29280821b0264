use Rattle.std.proofs.Common.{◌≡◌, ℕ, List, length, map, sym, ◌∙◌, ap, subst}
use Rattle.std.specs.List.{All}
use Rattle.std.proofs.lemmas.List.{length-map}
use Rattle.dg_expr.specs.Chosen.{chosen}
use Rattle.dg_expr.specs.Expressions.{instants_of, words_of}
use Rattle.dg_graph.specs.declared.element.Element.{Element}
use Rattle.dg_retrieval.specs.Beginnings.{GraphLead, leads_in, led_to}
use Rattle.dg_retrieval.specs.NamesThere.{NamesAreThere}
use Rattle.dg_session.proofs.ChosenGraphs.{if_ok, there_chosen}
use Rattle.dg_session.proofs.GraphNames.{there_held, there_led}
use Rattle.dg_session.specs.contracts.session.Session.{the_view}
use Rattle.dg_session.specs.Parts.{Parts}
use Rattle.dg_session.specs.Reads.{listed_by}
use Rattle.dg_session.specs.SessionState.{SessionState}
use Rattle.dg_session.proofs.session.Session.chosen_of.Goals as goal

pub select-requires-clause-sets : goal.select-requires-clause-sets
select-requires-clause-sets c =
    let v : Parts = (the_view c.self.inside).parts in
    ap length (c.deref.ensures.value ∙ c.in_ok-sets.ensures) ∙ length-map (leads_in c.args.leads.now) (led_to v.graph (listed_by v) c.args.cols) ∙ c.requires.leads

pub returns-clause-chosen : goal.returns-clause-chosen
returns-clause-chosen c =
    let ws = words_of c.args.expr.now in
    let leads : List GraphLead = leads_in c.args.leads.now in
    let cols = c.args.cols in
    if_ok c.select.result (λ set. (graph : ℕ → List Element) → c.deref.result.now ≡ map graph (instants_of ws) → set ≡ chosen ws graph)
    (λ set. (graph : ℕ → List Element) → map (led_to c.args.self.now.parts.graph (listed_by c.args.self.now.parts) cols) leads ≡ map graph (instants_of ws) → set ≡ chosen ws graph)
    (λ set is graph all.
    is graph (c.deref.ensures.value ∙ c.in_ok-sets.ensures ∙ ap (λ (x : SessionState). map (led_to x.parts.graph (listed_by x.parts) cols) leads) c.self.view_is ∙ all))
    c.select.ensures

pub returns-clause-named : goal.returns-clause-named
returns-clause-named c =
    let ws = words_of c.args.expr.now in
    let leads : List GraphLead = leads_in c.args.leads.now in
    let cols = c.args.cols in
    let v : Parts = (the_view c.self.inside).parts in
    let n : ℕ = length v.names in
    let same : v ≡ c.args.self.now.parts = ap (λ (x : SessionState). x.parts) c.self.view_is in
    let sets : List (List Element) = map (led_to v.graph (listed_by v) cols) leads in
    let are : c.deref.result.now ≡ sets = c.deref.ensures.value ∙ c.in_ok-sets.ensures in
    let there : All (NamesAreThere n) sets =
    there_led n v.graph (listed_by v) cols c.self.invariant.1.live.sound.named (there_held n v.table v.graphs c.self.invariant.1.handles.named) leads
    (subst (λ (x : Parts). All (λ (l : GraphLead). NamesAreThere (length x.names) l.delta.plus) leads) (sym same) c.requires.named) in
    if_ok c.select.result (λ set. (graph : ℕ → List Element) → c.deref.result.now ≡ map graph (instants_of ws) → set ≡ chosen ws graph) (NamesAreThere (length c.args.self.now.parts.names))
    (λ set is.
    subst (λ (x : Parts). NamesAreThere (length x.names) set) same
    (there_chosen n ws sets set (length-map leads (led_to v.graph (listed_by v) cols) ∙ c.requires.leads) there (λ graph all. is graph (are ∙ all))))
    c.select.ensures
