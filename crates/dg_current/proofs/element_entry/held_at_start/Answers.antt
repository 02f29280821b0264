use Rattle.std.proofs.Common.{◌≡◌, sym, ◌∙◌}
use Rattle.dg_current.specs.ElementIds.{element_id_of}
use Rattle.dg_current.specs.HeldElements.{element_in}
use Rattle.dg_current.proofs.ElementIds.{at_has}
use Rattle.dg_current.proofs.HeldElements.{held_itself, held_nothing}
use Rattle.dg_current.proofs.element_entry.held_at_start.Goals as goal

pub returns-in-Some : goal.returns-in-Some
returns-in-Some c =
    let found = sym c.in-Some.is ∙ c.element_at.ensures in
    let there = at_has c.args.base.now c.args.id c.in-Some.element (sym found) in
    let id : element_id_of c.in-Some.element ≡ c.args.id = there.1 in
    let held = held_itself c.args.base.now c.in-Some.element (c.facts.ensures.needs c.in-Some.element there.0) in
    (λ i. element_in (sym id i) (c.of.ensures i)) ∙ held ∙ found

pub returns-in-None : goal.returns-in-None
returns-in-None c = held_nothing c.args.id ∙ sym c.in-None.is ∙ c.element_at.ensures
