use Rattle.std.proofs.Common.{◌≡◌, ◌||◌, None, is_some, sym, ap, ◌∙◌}
use Rattle.std.proofs.lemmas.Bool.{or_left, or_right}
use Rattle.dg_current.specs.declared.element_entry.ElementEntry.{ElementEntry}
use Rattle.dg_current.specs.declared.element_id.ElementId.{ElementId}
use Rattle.dg_current.specs.HeldGraph.{element_entry_at, has_entry}
use Rattle.dg_current.specs.ElementIds.{same_id}
use Rattle.dg_current.proofs.EventEffectCompletions.{none_from}
use Rattle.dg_current.proofs.HeldGraph.{derived_entry, same_id_itself}
use Rattle.dg_current.proofs.HeldGraphWrites.{Writes, writes_is, has_after, has_entry_is, keeps_held, keeps_uses, element_missing, more_missing, fewer_missing}
use Rattle.dg_current.proofs.element_entry.touch.Goals as goal
use Rattle.dg_current.proofs.element_entry.touch.Goals.{In_ok-insert}

pub returns-then-contains_key-clause-known : goal.returns-then-contains_key-clause-known
returns-then-contains_key-clause-known c =
    let entries = c.args.elements.now.entries in
    has_entry_is entries c.args.id ∙ ap is_some (sym (derived_entry entries c.args.id)) ∙ sym c.contains_key.ensures ∙ c.if-contains_key.true

-- no entry was there
missing : (c : In_ok-insert) → None ≡ element_entry_at c.args.elements.now.entries c.args.id
missing c =
    sym (sym (derived_entry c.args.elements.now.entries c.args.id) ∙ none_from _ (sym c.contains_key.ensures ∙ c.if-contains_key.false))

abbrev made : (c : In_ok-insert) → ElementEntry
made c = record { held = c.held_at_start.result; more = 0; fewer = 0 }

writes : (c : In_ok-insert) → Writes c.args.elements.now.entries c.insert.new.self.entries c.args.id (made c)
writes c = writes_is c.args.elements.now.entries c.insert.new.self.entries c.args.id (made c) c.in_ok-insert.ensures.updates.0

after : (c : In_ok-insert) (p : ElementId) → has_entry c.insert.new.self.entries p ≡ (same_id c.args.id p || has_entry c.args.elements.now.entries p)
after c = has_after c.args.elements.now.entries c.insert.new.self.entries c.args.id (made c) (writes c)

pub returns-clause-known : goal.returns-clause-known
returns-clause-known c =
    after (goal.at.returns-clause-known c).In_ok-insert c.args.id
    ∙ or_left (same_id c.args.id c.args.id) (has_entry c.args.elements.now.entries c.args.id) (same_id_itself c.args.id)

pub returns-clause-ids : goal.returns-clause-ids
returns-clause-ids c = λ p there.
    after (goal.at.returns-clause-ids c).In_ok-insert p ∙ or_right (same_id c.args.id p) (has_entry c.args.elements.now.entries p) there

pub returns-clause-held : goal.returns-clause-held
returns-clause-held c =
    let at = (goal.at.returns-clause-held c).In_ok-insert in
    keeps_held _ _ c.args.id (made at) (writes at) c.args.base.now (c.held_at_start.ensures ∙ element_missing c.args.base.now c.args.elements.now.entries c.args.id (missing at))

pub returns-clause-uses : goal.returns-clause-uses
returns-clause-uses c =
    let at = (goal.at.returns-clause-uses c).In_ok-insert in
    keeps_uses _ _ c.args.id (made at) (writes at)
    (more_missing c.args.elements.now.entries c.args.id (missing at)) (fewer_missing c.args.elements.now.entries c.args.id (missing at))
