use Rattle.std.proofs.Common.{◌≡◌, Some, None, sym, ap, ◌∙◌}
use Rattle.dg_current.specs.HeldGraph.{HeldGraphState, element_entry_at}
use Rattle.dg_current.specs.ElementIds.{at}
use Rattle.dg_current.proofs.HeldGraph.{derived_entry, kept_at}
use Rattle.dg_current.proofs.HeldGraphWrites.{element_found, element_missing}
use Rattle.dg_current.proofs.held_graph.HeldGraph.element_at.Goals as goal

pub returns-in-Some : goal.returns-in-Some
returns-in-Some c =
    let base = c.self.inside.base in
    let entries = c.self.inside.elements.entries in
    let found : Some c.in-Some.entry.now ≡ element_entry_at entries c.args.id = c.in-Some.ensures.value ∙ derived_entry entries c.args.id in
    c.element.ensures ∙ element_found base entries c.args.id c.in-Some.entry.now found
    ∙ sym (kept_at base entries c.self.invariant.0.own_ids c.args.id) ∙ ap (λ (h : HeldGraphState). at h.set c.args.id) c.self.view_is

pub returns-in-None : goal.returns-in-None
returns-in-None c =
    let base = c.self.inside.base in
    let entries = c.self.inside.elements.entries in
    let none : None ≡ element_entry_at entries c.args.id = c.in-None.ensures.value ∙ derived_entry entries c.args.id in
    c.element_at.ensures ∙ element_missing base entries c.args.id none
    ∙ sym (kept_at base entries c.self.invariant.0.own_ids c.args.id) ∙ ap (λ (h : HeldGraphState). at h.set c.args.id) c.self.view_is
