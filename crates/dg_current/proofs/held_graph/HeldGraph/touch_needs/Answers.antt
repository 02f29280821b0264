use Rattle.std.proofs.Common.{◌≡◌, true, List, [], ◌∷◌, length, refl, subst, ap, ◌∙◌, sym, arith}
use Rattle.dg_graph.specs.declared.element.Element.{Element}
use Rattle.dg_graph.specs.Graph.{has_needs}
use Rattle.dg_current.specs.declared.element_id.ElementId.{ElementId}
use Rattle.dg_current.specs.HeldGraph.{HeldGraphState, HeldGraphIsSound, knows, has_entry, elements_of}
use Rattle.dg_current.specs.ElementIds.{needs_id}
use Rattle.dg_current.proofs.HeldGraph.{same_elements, same_sound}
use Rattle.dg_current.proofs.HeldGraphWrites.{needs_known}
use Rattle.dg_current.proofs.held_graph.HeldGraph.touch_needs.Goals as goal

nothing : (xs : List Element) → length xs ≡ 0 → xs ≡ []
nothing [] e = refl
nothing (x ∷ xs) e = absurd (omega arith)

pub returns-then-len-eq0-clause-known : goal.returns-then-len-eq0-clause-known
returns-then-len-eq0-clause-known c =
    let entries = c.self.inside.elements.entries in
    let none : c.self.inside.base ≡ [] = nothing c.self.inside.base (sym c.len.ensures.len ∙ c.if-len-eq0.true) in
    subst (λ (h : HeldGraphState). has_needs h.set c.args.element.now ≡ true → (p : ElementId) → needs_id p c.args.element.now ≡ true → knows h p ≡ true) c.self.view_is
    (subst (λ base. HeldGraphIsSound base entries → has_needs (elements_of base entries) c.args.element.now ≡ true → (p : ElementId) → needs_id p c.args.element.now ≡ true → has_entry entries p ≡ true)
    (sym none) (λ sound fed. needs_known entries sound c.args.element.now fed) c.self.invariant.0)
    c.requires.fed

pub invariant_of-self : goal.invariant_of-self
invariant_of-self c =
    let base = c.self.inside.base in
    let old = c.self.inside.elements.entries in
    let new = c.touch_needs.new.elements.entries in
    let held = c.touch_needs.ensures.held in
    (same_sound base old new c.self.invariant.0 held c.touch_needs.ensures.uses, c.self.invariant.1 ∙ ap length (sym (same_elements base old new c.self.invariant.0 held)))

pub returns-clause-set : goal.returns-clause-set
returns-clause-set c =
    same_elements c.self.inside.base c.self.inside.elements.entries c.touch_needs.new.elements.entries c.self.invariant.0 c.touch_needs.ensures.held
    ∙ ap (λ (h : HeldGraphState). h.set) c.self.view_is
