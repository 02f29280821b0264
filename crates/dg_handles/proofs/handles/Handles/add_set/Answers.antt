use Rattle.std.proofs.Common.{arith, ◌≡◌, ℕ, ◌+◌, ◌<◌, ◌++◌, [], ◌∷◌, List, length, refl, sym, ap, ◌∙◌, subst}
use Rattle.std.proofs.lemmas.List.{map-append}
use Rattle.dg_graph.specs.Composition.{applied}
use Rattle.dg_graph.specs.declared.element.Element.{Element}
use Rattle.dg_graph.specs.Elements.{shown}
use Rattle.dg_handles.specs.Attached.{AreAttached}
use Rattle.dg_handles.specs.Handles.{IsTied, slot_graphs, members_at}
use Rattle.dg_handles.proofs.AttachedSlots.{attached_more, attached_none, held_kept, some_free, tied_more, with_more}
use Rattle.dg_handles.proofs.HandleEntries.{Entries}
use Rattle.dg_handles.proofs.HandleTies.{set_holds, tie_is_kept}
use Rattle.dg_pool.specs.declared.slots.Base.TheVariants as base
use Rattle.dg_pool.specs.Sweeps.{members_as}
use Rattle.dg_handles.proofs.handles.Handles.add_set.Goals as goal

pub attach-requires-clause-room : goal.attach-requires-clause-room
attach-requires-clause-room c =
    let few : length c.args.self.now.table + length {A = ℕ} [] < 127 = omega (arith, c.requires.room) in
    some_free c.args.pool.now c.args.pool.now c.args.self.now c.requires.tied [] [] (attached_none c.args.pool.now) few

pub returns-in_err-slot-clause-tied : goal.returns-in_err-slot-clause-tied
returns-in_err-slot-clause-tied c = tie_is_kept c.args.pool.now c.attach.new.pool c.args.self.now c.in_err-slot.ensures.err.slots c.requires.tied

-- the graph of the new handle
attached : (c : goal.After-enter) → AreAttached c.args.pool.now c.attach.new.pool (c.in_ok-slot.slot.0 ∷ [])
    (record { base = base.Nothing; cols = c.with_messages.result; members = shown (applied c.args.delta.now []) c.with_messages.result } ∷ [])
attached c = attached_more c.args.pool.now c.args.pool.now [] [] (attached_none c.args.pool.now) c.attach.new.pool c.in_ok-slot.slot.0 _ c.in_ok-slot.ensures.slot

slots_are : (c : goal.After-enter) → c.enter.new.self.slots ≡ c.args.self.now.slots ++ c.in_ok-slot.slot.0 ∷ []
slots_are c = c.enter.ensures.slots

pub returns-clause-graphs : goal.returns-clause-graphs
returns-clause-graphs c =
    let h = c.args.self.now in
    let old = c.args.pool.now in
    let new = c.attach.new.pool in
    let slots : List ℕ = c.in_ok-slot.slot.0 ∷ [] in
    let delta = c.args.delta.now in
    ap (slot_graphs new) (slots_are c) ∙ map-append (members_at new) h.slots slots
    ∙ ap (λ (l : List (List Element)). l ++ slot_graphs new slots) (held_kept old new h c.requires.tied slots _ (attached c))
    ∙ ap (λ o. slot_graphs old h.slots ++ members_as o ∷ []) c.in_ok-slot.ensures.slot.holds
    ∙ ap (λ cols. slot_graphs old h.slots ++ shown (applied delta []) cols ∷ []) c.with_messages.ensures

pub returns-clause-tied : goal.returns-clause-tied
returns-clause-tied c =
    let h = c.args.self.now in
    let last = c.enter.new.self.next in
    let more : Entries = (h.next, c.args.stands) ∷ [] in
    subst (IsTied c.attach.new.pool) (λ k. record { table = sym c.enter.ensures.table k; slots = sym (slots_are c) k; next = last })
    (tied_more c.args.pool.now c.attach.new.pool h c.requires.tied more (c.in_ok-slot.slot.0 ∷ []) last _ (attached c) (set_holds (with_more h more (c.in_ok-slot.slot.0 ∷ []) last) c.args.stands _ c.requires.alone c.with_messages.ensures refl, tt))
