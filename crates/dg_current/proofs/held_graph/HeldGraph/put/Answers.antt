use Rattle.std.proofs.Common.{◌≡◌, ◌+◌, true, cond, Some, None, sym, ap, subst, ◌∙◌, arith}
use Rattle.dg_graph.specs.Elements.{bit, put}
use Rattle.dg_graph.specs.Graph.{has_needs}
use Rattle.dg_current.specs.declared.element_id.ElementId.{ElementId}
use Rattle.dg_current.specs.HeldGraph.{HeldGraphState, more_at, fewer_at, held_at, elements_of}
use Rattle.dg_current.specs.ElementIds.{element_id_of, at, needs_id, same_id}
use Rattle.dg_current.specs.HeldElements.{element_in}
use Rattle.dg_current.proofs.HeldElements.{held_itself}
use Rattle.dg_current.proofs.HeldGraph.{Changes, put_elements, put_length, put_sound}
use Rattle.dg_current.proofs.HeldGraphWrites.{elements_fit, more_fits}
use Rattle.dg_current.proofs.held_graph.HeldGraph.put.Goals as goal
use Rattle.dg_current.proofs.held_graph.HeldGraph.put.Goals.{After-count_in}

fed : (c : After-count_in) → has_needs (elements_of c.self.inside.base c.self.inside.elements.entries) c.args.element ≡ true
fed c = subst (λ (h : HeldGraphState). has_needs h.set c.args.element ≡ true) (sym c.self.view_is) c.requires.fed

free : (c : After-count_in) → at (elements_of c.self.inside.base c.self.inside.elements.entries) (element_id_of c.args.element) ≡ None
free c = subst (λ (h : HeldGraphState). at h.set (element_id_of c.args.element) ≡ None) (sym c.self.view_is) c.requires.free

changes : (c : After-count_in) → Changes c.self.inside.base c.self.inside.elements.entries c.count_in.new.elements.entries (element_id_of c.args.element) (Some c.args.element)
changes c p =
    c.count_in.ensures.held c.self.inside.base p ∙ c.set_held.ensures.held c.self.inside.base p
    ∙ (λ i. cond (same_id (c.of-id.ensures i) p) (element_in (c.of-id.ensures i) (c.of-held.ensures i)) (held_at c.self.inside.base c.self.inside.elements.entries p))
    ∙ ap (λ o. cond (same_id (element_id_of c.args.element) p) o (held_at c.self.inside.base c.self.inside.elements.entries p)) (held_itself (elements_of c.self.inside.base c.self.inside.elements.entries) c.args.element (fed c))

uses : (c : After-count_in) (p : ElementId)
    → more_at c.count_in.new.elements.entries p + fewer_at c.self.inside.elements.entries p
    ≡ more_at c.self.inside.elements.entries p + fewer_at c.count_in.new.elements.entries p + bit (needs_id p c.args.element)
uses c p =
    let moved = c.count_in.ensures.uses p in
    let more = c.set_held.ensures.uses.more p in
    let fewer = c.set_held.ensures.uses.fewer p in
    omega arith

pub overflow_add-self : goal.overflow_add-self
overflow_add-self c =
    let fits = elements_fit c.self.inside.base c.self.inside.elements.entries in
    let count = c.self.invariant.1 in
    let base = c.len.ensures.len in
    let small = c.len.ensures.small in
    let entries = c.len-2.ensures.len in
    let few = c.len-2.ensures.small in
    omega arith

pub count_in-requires-clause-fits : goal.count_in-requires-clause-fits
count_in-requires-clause-fits c = λ p.
    let more = c.set_held.ensures.uses.more p in
    let fewer = c.set_held.ensures.uses.fewer p in
    let fits = more_fits c.self.inside.base c.self.inside.elements.entries c.self.invariant.0 p in
    let base = c.len.ensures.len in
    let small = c.len.ensures.small in
    let entries = c.len-2.ensures.len in
    let few = c.len-2.ensures.small in
    omega arith

pub invariant_of-self : goal.invariant_of-self
invariant_of-self c =
    let here = (goal.at.invariant_of-self c).After-count_in in
    let base = c.self.inside.base in
    let old = c.self.inside.elements.entries in
    let new = c.count_in.new.elements.entries in
    let sound = c.self.invariant.0 in (
      put_sound base old new c.args.element sound (free here) (fed here) (changes here) (uses here),
      ap (λ n. n + 1) c.self.invariant.1 ∙ sym (put_length base old new c.args.element sound (free here) (fed here) (changes here) (uses here)),
    )

pub returns-clause-set : goal.returns-clause-set
returns-clause-set c =
    let here = (goal.at.returns-clause-set c).After-count_in in
    put_elements c.self.inside.base c.self.inside.elements.entries c.count_in.new.elements.entries c.args.element c.self.invariant.0 (free here) (fed here) (changes here) (uses here)
    ∙ ap (λ (h : HeldGraphState). put c.args.element h.set) c.self.view_is
