use Rattle.std.proofs.Common.{◌≡◌, ltb, Some, None, ap, ◌∙◌, arith, ◌-◌}
use Rattle.std.proofs.lemmas.Bool.{ltb-true, lt-ltb}
use Rattle.std.specs.List.{list_any}
use Rattle.dg_current.specs.HeldGraph.{HeldGraphState, element_entry_at}
use Rattle.dg_current.specs.ElementIds.{needs_id}
use Rattle.dg_current.proofs.HeldGraph.{derived_entry, needed_is}
use Rattle.dg_current.proofs.HeldGraphWrites.{more_found, fewer_found, more_missing, fewer_missing}
use Rattle.dg_current.proofs.held_graph.HeldGraph.is_needed.Goals as goal

pub returns-then-entry : goal.returns-then-entry
returns-then-entry c =
    let entries = c.self.inside.elements.entries in
    let entry = c.in-Some.entry.now in
    let found : Some entry ≡ element_entry_at entries c.args.id = c.in-Some.ensures.value ∙ derived_entry entries c.args.id in
    let more = more_found entries c.args.id entry found in
    let fewer = fewer_found entries c.args.id entry found in
    let above = c.if-entry.true in
    needed_is c.self.inside.base entries c.self.invariant.0 c.args.id (ltb entry.fewer entry.more) (λ e. omega arith) (λ h. lt-ltb entry.fewer entry.more above)
    ∙ ap (λ (h : HeldGraphState). list_any (needs_id c.args.id) h.set) c.self.view_is

pub returns-else-entry : goal.returns-else-entry
returns-else-entry c =
    let entries = c.self.inside.elements.entries in
    let entry = c.in-Some.entry.now in
    let found : Some entry ≡ element_entry_at entries c.args.id = c.in-Some.ensures.value ∙ derived_entry entries c.args.id in
    let more = more_found entries c.args.id entry found in
    let fewer = fewer_found entries c.args.id entry found in
    let below = c.if-entry.false in
    let uses = c.uses.ensures in
    needed_is c.self.inside.base entries c.self.invariant.0 c.args.id (ltb (entry.fewer - entry.more) c.uses.result)
    (λ e. let less = ltb-true (entry.fewer - entry.more) c.uses.result e in omega arith) (λ h. lt-ltb (entry.fewer - entry.more) c.uses.result (omega arith))
    ∙ ap (λ (h : HeldGraphState). list_any (needs_id c.args.id) h.set) c.self.view_is

pub returns-in-None : goal.returns-in-None
returns-in-None c =
    let entries = c.self.inside.elements.entries in
    let none : None ≡ element_entry_at entries c.args.id = c.in-None.ensures.value ∙ derived_entry entries c.args.id in
    let more = more_missing entries c.args.id none in
    let fewer = fewer_missing entries c.args.id none in
    let uses = c.uses-in-None.ensures in
    needed_is c.self.inside.base entries c.self.invariant.0 c.args.id (ltb 0 c.uses-in-None.result)
    (λ e. let less = ltb-true 0 c.uses-in-None.result e in omega arith) (λ h. lt-ltb 0 c.uses-in-None.result (omega arith))
    ∙ ap (λ (h : HeldGraphState). list_any (needs_id c.args.id) h.set) c.self.view_is
