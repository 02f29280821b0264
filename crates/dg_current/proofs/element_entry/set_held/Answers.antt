use Rattle.std.proofs.Common.{◌≡◌, ◌<◌, cond, Some, None, sym, ap, subst, ◌∙◌, rules}
use Rattle.std.proofs.lemmas.Bool.{ltb-true}
use Rattle.std.specs.Map.{lookup}
use Rattle.indexmap.specs.IndexMap.{spare}
use Rattle.dg_current.specs.declared.element_entry.ElementEntry.{ElementEntry}
use Rattle.dg_current.specs.contracts.element_id.ElementIdPartialEq.TheImpl as of_ids
use Rattle.dg_current.specs.HeldGraph.{element_entry_at}
use Rattle.dg_current.proofs.HeldGraph.{derived_entry}
use Rattle.dg_current.proofs.HeldGraphWrites.{Writes, from_ok, writes_is, has_after, held_after, keeps_uses, more_found, fewer_found, more_missing, fewer_missing, room_left}
use Rattle.dg_current.proofs.element_entry.set_held.Goals as goal
use Rattle.dg_current.proofs.element_entry.set_held.Goals.{In-Some, In_default, After-unwrap}

-- the entry that was there
found : (c : In-Some) → Some c.in-Some.entry.now ≡ element_entry_at c.args.elements.now.entries c.args.id
found c = c.in-Some.ensures.value ∙ derived_entry c.args.elements.now.entries c.args.id

abbrev changed : (c : In-Some) → ElementEntry
changed c = record { held = c.args.held; more = c.in-Some.entry.now.more; fewer = c.in-Some.entry.now.fewer }

changed_writes : (c : In-Some) → Writes c.args.elements.now.entries (c.get_mut.follows.lender (changed c)).entries c.args.id (changed c)
changed_writes c =
    writes_is c.args.elements.now.entries (c.get_mut.follows.lender (changed c)).entries c.args.id (changed c) ((c.get_mut.follows.holds (changed c)).3 (search rules)).0

pub returns-in-Some-clause-held : goal.returns-in-Some-clause-held
returns-in-Some-clause-held c = held_after _ _ c.args.id _ (changed_writes (goal.at.returns-in-Some-clause-held c).In-Some)

pub returns-in-Some-clause-uses : goal.returns-in-Some-clause-uses
returns-in-Some-clause-uses c =
    let is = found (goal.at.returns-in-Some-clause-uses c).In-Some in
    keeps_uses _ _ c.args.id _ (changed_writes (goal.at.returns-in-Some-clause-uses c).In-Some)
    (more_found c.args.elements.now.entries c.args.id c.in-Some.entry.now is) (fewer_found c.args.elements.now.entries c.args.id c.in-Some.entry.now is)

pub returns-in-Some-clause-ids : goal.returns-in-Some-clause-ids
returns-in-Some-clause-ids c = has_after _ _ c.args.id _ (changed_writes (goal.at.returns-in-Some-clause-ids c).In-Some)

-- no entry was there
missing : (c : In_default) → None ≡ element_entry_at c.args.elements.now.entries c.args.id
missing c = c.in_default.ensures.value ∙ derived_entry c.args.elements.now.entries c.args.id

pub unwrap-requires : goal.unwrap-requires
unwrap-requires c =
    let room = ltb-true 0 (spare c.args.elements.now) (room_left c.args.elements.now.entries c.args.id (spare c.args.elements.now) c.requires.room (missing (goal.at.unwrap-requires c).In_default)) in
    c.insert.ensures.succeeds (subst (λ m. 0 < spare m) (sym c.get_mut.follows.holds-at-none) room)

abbrev made : (c : After-unwrap) → ElementEntry
made c = record { held = c.args.held; more = 0; fewer = 0 }

made_writes : (c : After-unwrap) → Writes c.args.elements.now.entries c.insert.new.self.entries c.args.id (made c)
made_writes c =
    let written = (from_ok c.insert.result c.unwrap.result _ c.unwrap.ensures c.insert.ensures.updates).0 in
    writes_is c.args.elements.now.entries c.insert.new.self.entries c.args.id (made c)
    (λ q. written q ∙ ap (λ m. cond ((of_ids.ghosts).eq c.args.id q) (Some (made c)) (lookup ((of_ids.ghosts).eq q) m.entries)) c.get_mut.follows.holds-at-none)

pub returns-clause-held : goal.returns-clause-held
returns-clause-held c = held_after _ _ c.args.id _ (made_writes (goal.at.returns-clause-held c).After-unwrap)

pub returns-clause-uses : goal.returns-clause-uses
returns-clause-uses c =
    let is = missing (goal.at.returns-clause-uses c).In_default in
    keeps_uses _ _ c.args.id _ (made_writes (goal.at.returns-clause-uses c).After-unwrap)
    (more_missing c.args.elements.now.entries c.args.id is) (fewer_missing c.args.elements.now.entries c.args.id is)

pub returns-clause-ids : goal.returns-clause-ids
returns-clause-ids c = has_after _ _ c.args.id _ (made_writes (goal.at.returns-clause-ids c).After-unwrap)
