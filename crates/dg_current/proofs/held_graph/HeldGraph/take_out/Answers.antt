use Rattle.std.proofs.Common.{◌≡◌, ◌+◌, true, false, cond, None, sym, ap, subst, ◌∙◌, arith}
use Rattle.std.specs.List.{list_any}
use Rattle.dg_graph.specs.Elements.{bit, has, take_out}
use Rattle.dg_current.specs.declared.element_id.ElementId.{ElementId}
use Rattle.dg_current.specs.HeldGraph.{HeldGraphState, more_at, fewer_at, held_at, elements_of}
use Rattle.dg_current.specs.ElementIds.{element_id_of, needs_id, same_id}
use Rattle.dg_current.proofs.HeldElements.{held_nothing}
use Rattle.dg_current.proofs.HeldGraph.{Changes, out_elements, out_length, out_sound}
use Rattle.dg_current.proofs.HeldGraphWrites.{fewer_fits}
use Rattle.dg_current.proofs.held_graph.HeldGraph.take_out.Goals as goal
use Rattle.dg_current.proofs.held_graph.HeldGraph.take_out.Goals.{After-count_out}

there : (c : After-count_out) → has (elements_of c.self.inside.base c.self.inside.elements.entries) c.args.element.now ≡ true
there c = subst (λ (h : HeldGraphState). has h.set c.args.element.now ≡ true) (sym c.self.view_is) c.requires.there

free : (c : After-count_out) → list_any (needs_id (element_id_of c.args.element.now)) (elements_of c.self.inside.base c.self.inside.elements.entries) ≡ false
free c = subst (λ (h : HeldGraphState). list_any (needs_id (element_id_of c.args.element.now)) h.set ≡ false) (sym c.self.view_is) c.requires.free

changes : (c : After-count_out) → Changes c.self.inside.base c.self.inside.elements.entries c.count_out.new.elements.entries (element_id_of c.args.element.now) None
changes c p =
    c.count_out.ensures.held c.self.inside.base p ∙ c.set_held.ensures.held c.self.inside.base p
    ∙ ap (λ o. cond (same_id c.of-id.result p) o (held_at c.self.inside.base c.self.inside.elements.entries p)) (held_nothing c.of-id.result)
    ∙ ap (λ id. cond (same_id id p) None (held_at c.self.inside.base c.self.inside.elements.entries p)) c.of-id.ensures

uses : (c : After-count_out) (p : ElementId)
    → more_at c.self.inside.elements.entries p + fewer_at c.count_out.new.elements.entries p
    ≡ more_at c.count_out.new.elements.entries p + fewer_at c.self.inside.elements.entries p + bit (needs_id p c.args.element.now)
uses c p =
    let moved = c.count_out.ensures.uses p in
    let more = c.set_held.ensures.uses.more p in
    let fewer = c.set_held.ensures.uses.fewer p in
    omega arith

pub count_out-requires-clause-fits : goal.count_out-requires-clause-fits
count_out-requires-clause-fits c = λ p.
    let more = c.set_held.ensures.uses.more p in
    let fewer = c.set_held.ensures.uses.fewer p in
    let fits = fewer_fits c.self.inside.base c.self.inside.elements.entries c.self.invariant.0 p in
    let base = c.len.ensures.len in
    let small = c.len.ensures.small in
    omega arith

pub invariant_of-self : goal.invariant_of-self
invariant_of-self c =
    let here = (goal.at.invariant_of-self c).After-count_out in
    let base = c.self.inside.base in
    let old = c.self.inside.elements.entries in
    let new = c.count_out.new.elements.entries in
    let sound = c.self.invariant.0 in
    let count = c.self.invariant.1 in
    let less = out_length base old new c.args.element.now sound (there here) (free here) (changes here) (uses here) in
    (out_sound base old new c.args.element.now sound (there here) (free here) (changes here) (uses here), omega arith)

pub returns-clause-set : goal.returns-clause-set
returns-clause-set c =
    let here = (goal.at.returns-clause-set c).After-count_out in
    out_elements c.self.inside.base c.self.inside.elements.entries c.count_out.new.elements.entries c.args.element.now c.self.invariant.0 (there here) (free here) (changes here) (uses here)
    ∙ ap (λ (h : HeldGraphState). take_out c.args.element.now h.set) c.self.view_is
