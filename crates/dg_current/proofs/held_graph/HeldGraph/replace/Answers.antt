use Rattle.std.proofs.Common.{◌≡◌, true, false, cond, Some, None, sym, ap, subst, ◌∙◌}
use Rattle.std.specs.List.{list_any}
use Rattle.dg_graph.specs.Elements.{has, put, take_out}
use Rattle.dg_graph.specs.Graph.{has_needs}
use Rattle.dg_current.specs.HeldGraph.{HeldGraphState, held_at, elements_of}
use Rattle.dg_current.specs.ElementIds.{element_id_of, at, needs_id, same_id}
use Rattle.dg_current.specs.HeldElements.{element_in, held_of}
use Rattle.dg_current.proofs.HeldElements.{held_itself}
use Rattle.dg_current.proofs.HeldGraph.{Changes, swap_elements, swap_length, swap_sound}
use Rattle.dg_current.proofs.held_graph.HeldGraph.replace.Goals as goal
use Rattle.dg_current.proofs.held_graph.HeldGraph.replace.Goals.{After-set_held}

there : (c : After-set_held) → has (elements_of c.self.inside.base c.self.inside.elements.entries) c.args.old.now ≡ true
there c = subst (λ (h : HeldGraphState). has h.set c.args.old.now ≡ true) (sym c.self.view_is) c.requires.there

loose : (c : After-set_held) → list_any (needs_id (element_id_of c.args.old.now)) (elements_of c.self.inside.base c.self.inside.elements.entries) ≡ false
loose c = subst (λ (h : HeldGraphState). list_any (needs_id (element_id_of c.args.old.now)) h.set ≡ false) (sym c.self.view_is) c.requires.loose

free : (c : After-set_held) → at (take_out c.args.old.now (elements_of c.self.inside.base c.self.inside.elements.entries)) (element_id_of c.args.new) ≡ None
free c = subst (λ (h : HeldGraphState). at (take_out c.args.old.now h.set) (element_id_of c.args.new) ≡ None) (sym c.self.view_is) c.requires.free

fed : (c : After-set_held) → has_needs (take_out c.args.old.now (elements_of c.self.inside.base c.self.inside.elements.entries)) c.args.new ≡ true
fed c = subst (λ (h : HeldGraphState). has_needs (take_out c.args.old.now h.set) c.args.new ≡ true) (sym c.self.view_is) c.requires.fed

changes : (c : After-set_held) → Changes c.self.inside.base c.self.inside.elements.entries c.set_held.new.elements.entries (element_id_of c.args.old.now) (Some c.args.new)
changes c p =
    c.set_held.ensures.held c.self.inside.base p
    ∙ (λ i. cond (same_id (c.of-id.ensures i) p) (element_in (c.of-id.ensures i) (c.of.ensures i)) (held_at c.self.inside.base c.self.inside.elements.entries p))
    ∙ ap (λ o. cond (same_id (element_id_of c.args.old.now) p) o (held_at c.self.inside.base c.self.inside.elements.entries p))
    (ap (λ id. element_in id (held_of c.args.new)) (sym c.requires.alike) ∙ held_itself (take_out c.args.old.now (elements_of c.self.inside.base c.self.inside.elements.entries)) c.args.new (fed c))

pub invariant_of-self : goal.invariant_of-self
invariant_of-self c =
    let here = (goal.at.invariant_of-self c).After-set_held in
    let base = c.self.inside.base in
    let old = c.self.inside.elements.entries in
    let new = c.set_held.new.elements.entries in
    let sound = c.self.invariant.0 in (
      swap_sound base old new c.args.old.now c.args.new sound (there here) (loose here) c.requires.alike c.requires.needs (free here) (fed here) (changes here) c.set_held.ensures.uses,
      c.self.invariant.1 ∙ sym (swap_length base old new c.args.old.now c.args.new sound (there here) (loose here) c.requires.alike c.requires.needs (free here) (fed here) (changes here) c.set_held.ensures.uses),
    )

pub returns-clause-set : goal.returns-clause-set
returns-clause-set c =
    let here = (goal.at.returns-clause-set c).After-set_held in
    swap_elements c.self.inside.base c.self.inside.elements.entries c.set_held.new.elements.entries c.args.old.now c.args.new c.self.invariant.0 (there here) (loose here) c.requires.alike c.requires.needs (free here) (fed here) (changes here) c.set_held.ensures.uses
    ∙ ap (λ (h : HeldGraphState). put c.args.new (take_out c.args.old.now h.set)) c.self.view_is
