use Rattle.std.proofs.Common.{ap, subst, List, [], ◌≡◌, ◌∙◌, sym}
use Rattle.std.specs.Map.{keys_of}
use Rattle.dg_graph.specs.declared.element.Element.{Element}
use Rattle.dg_graph.specs.Sets.{unioned, without_all}
use Rattle.dg_set.specs.Apart.{AreApart}
use Rattle.dg_current.specs.HeldGraph.{HeldGraphState, collected}
use Rattle.dg_current.specs.HeldSet.{lost_at, gained_at}
use Rattle.dg_current.proofs.HeldSet.{changed_is, lost_not_gained, set_of_listed}
use Rattle.dg_current.proofs.held_graph.HeldGraph.since_start.Goals as goal
use Rattle.dg_current.proofs.held_graph.HeldGraph.since_start.Goals.{After-from_unsorted-2}

lost_is : (c : After-from_unsorted-2) → c.from_unsorted.result ≡ collected (lost_at c.self.inside.base c.self.inside.elements.entries) (keys_of c.self.inside.elements.entries)
lost_is c =
    let base = c.self.inside.base in
    let entries = c.self.inside.elements.entries in
    c.from_unsorted.ensures ∙ ap (unioned []) c.in_ok-lost.ensures.lost ∙ set_of_listed (lost_at base entries) (keys_of entries)

gained_is : (c : After-from_unsorted-2) → c.from_unsorted-2.result ≡ collected (gained_at c.self.inside.base c.self.inside.elements.entries) (keys_of c.self.inside.elements.entries)
gained_is c =
    let base = c.self.inside.base in
    let entries = c.self.inside.elements.entries in
    c.from_unsorted-2.ensures ∙ ap (unioned []) c.in_ok-lost.ensures.gained ∙ set_of_listed (gained_at base entries) (keys_of entries)

pub returns-clause-leads : goal.returns-clause-leads
returns-clause-leads c =
    let base = c.self.inside.base in
    (λ i. unioned (without_all (c.elements.ensures i) (lost_is c i)) (gained_is c i))
    ∙ changed_is base c.self.inside.elements.entries c.facts.ensures c.self.invariant.0.own_ids
    ∙ ap (λ (h : HeldGraphState). h.set) c.self.view_is

pub returns-clause-apart : goal.returns-clause-apart
returns-clause-apart c =
    subst (λ (x : List Element × List Element). AreApart x.0 x.1)
    (let e : (collected (lost_at c.self.inside.base c.self.inside.elements.entries) (keys_of c.self.inside.elements.entries), collected (gained_at c.self.inside.base c.self.inside.elements.entries) (keys_of c.self.inside.elements.entries)) ≡ (c.from_unsorted.result, c.from_unsorted-2.result) =
    λ i. (sym (lost_is c) i, sym (gained_is c) i) in e)
    (lost_not_gained c.self.inside.base c.self.inside.elements.entries c.facts.ensures c.self.invariant.0.own_ids)
