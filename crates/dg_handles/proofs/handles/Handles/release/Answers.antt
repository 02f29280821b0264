use Rattle.std.proofs.Common.{arith, ◌≡◌, ℕ, ◌<◌, None, get_or, is_some, length, map, remove, sym, ap, ◌∙◌, subst}
use Rattle.dg_handles.specs.declared.entries.Entry.{Entry}
use Rattle.dg_handles.specs.Handles.{HandlesState, IsTied, RiseWithin, slot_graphs}
use Rattle.dg_handles.proofs.HandleEntries.{handles_in, slot_listed}
use Rattle.dg_handles.proofs.HandleAdditions.{entry_of, number_of, rise_remove}
use Rattle.dg_handles.proofs.HandlePlaces.{Found, Missed, found_in, graphs_many, graphs_removed, here_in, map-remove, missed_in, number_in, slot_in, tied_removed, within_in}
use Rattle.dg_handles.proofs.HandleTies.{live_slot, none_rests}
use Rattle.dg_pool.specs.Changes.{NoneRestsOn}
use Rattle.dg_pool.specs.Graphs.{slot_graph}
use Rattle.dg_handles.proofs.handles.Handles.release.Goals as goal
use Rattle.dg_handles.proofs.handles.Handles.release.Goals.{In_default, After-detach}

-- ---- the handle is not live

missed : (c : In_default) → Missed c.args.handle c.args.self.now.table c.args.self.now.slots
missed c = missed_in c.args.handle c.args.self.now c.self.inside.entries.items c.deref.result.now c.self.inside.next c.self.view_is c.deref.ensures.value c.in_default.ensures.none

pub returns-in_default-clause-there : goal.returns-in_default-clause-there
returns-in_default-clause-there c = sym (ap is_some (missed c).entry)

pub returns-in_default-clause-table : goal.returns-in_default-clause-table
returns-in_default-clause-table c = sym (missed c).without

pub returns-in_default-clause-graphs : goal.returns-in_default-clause-graphs
returns-in_default-clause-graphs c =
    sym ((missed c).graphs (slot_graphs c.args.pool.now c.args.self.now.slots)
    (graphs_many c.args.handle c.args.self.now c.self.inside.entries.items c.deref.result.now c.self.inside.next c.self.view_is c.deref.ensures.value c.args.pool.now))

-- ---- it is live

pub detach-requires-clause-live : goal.detach-requires-clause-live
detach-requires-clause-live c =
    let h = c.args.self.now in
    let slot = slot_in c.args.handle h c.self.inside.entries.items c.deref.result.now c.self.inside.next c.self.view_is c.deref.ensures.value c.in-Some.entry_index c.in-Some.ensures.some c.remove-entry.result c.remove-entry.ensures.value in
    live_slot c.args.pool.now h c.requires.tied c.remove-entry.result.slot.0 (slot_listed c.args.handle h.table h.slots c.remove-entry.result.slot.0 slot)

pub detach-requires-clause-unused : goal.detach-requires-clause-unused
detach-requires-clause-unused c =
    let h = c.args.self.now in
    let entries = c.self.inside.entries.items in
    let seen = c.deref.result.now in
    let entry_index = c.in-Some.entry_index in
    let first = c.in-Some.ensures.some in
    subst (NoneRestsOn c.args.pool.now) (number_in c.args.handle h entries seen c.self.inside.next c.self.view_is c.deref.ensures.value entry_index first c.remove-entry.result c.remove-entry.ensures.value)
    (none_rests c.args.pool.now h c.requires.tied c.args.handle entry_index c.requires.unused (within_in c.args.handle h entries seen c.self.inside.next c.self.view_is c.deref.ensures.value entry_index first)
    (here_in c.args.handle h entries seen c.self.inside.next c.self.view_is c.deref.ensures.value entry_index first))

found : (c : After-detach) → Found c.args.handle c.args.self.now.table c.args.self.now.slots c.in-Some.entry_index
found c = found_in c.args.handle c.args.self.now c.self.inside.entries.items c.deref.result.now c.self.inside.next c.self.view_is c.deref.ensures.value c.in-Some.entry_index c.in-Some.ensures.some

within : (c : After-detach) → c.in-Some.entry_index < length c.args.self.now.table
within c = within_in c.args.handle c.args.self.now c.self.inside.entries.items c.deref.result.now c.self.inside.next c.self.view_is c.deref.ensures.value c.in-Some.entry_index c.in-Some.ensures.some

here : (c : After-detach) → get_or (handles_in c.args.self.now.table) c.in-Some.entry_index 0 ≡ c.args.handle
here c = here_in c.args.handle c.args.self.now c.self.inside.entries.items c.deref.result.now c.self.inside.next c.self.view_is c.deref.ensures.value c.in-Some.entry_index c.in-Some.ensures.some

number : (c : After-detach) → get_or c.args.self.now.slots c.in-Some.entry_index 0 ≡ c.remove-entry.result.slot.0
number c =
    number_in c.args.handle c.args.self.now c.self.inside.entries.items c.deref.result.now c.self.inside.next c.self.view_is c.deref.ensures.value c.in-Some.entry_index c.in-Some.ensures.some c.remove-entry.result c.remove-entry.ensures.value

gone : (c : After-detach) → slot_graph c.detach.new.pool (get_or c.args.self.now.slots c.in-Some.entry_index 0) ≡ None
gone c = ap (slot_graph c.detach.new.pool) (number c) ∙ c.detach.ensures.gone

others : (c : After-detach) → (s : ℕ) → (s ≡ get_or c.args.self.now.slots c.in-Some.entry_index 0 → ⊥) → slot_graph c.detach.new.pool s ≡ slot_graph c.args.pool.now s
others c s differs = c.detach.ensures.others s (λ same. differs (same ∙ sym (number c)))

table_is : (c : After-detach) → map entry_of c.remove-entry.new.self.items ≡ remove c.args.self.now.table c.in-Some.entry_index
table_is c =
    let entry_index = c.in-Some.entry_index in
    ap (map entry_of) c.remove-entry.ensures.items ∙ map-remove entry_of c.self.inside.entries.items entry_index ∙ ap (λ (s : HandlesState). remove s.table entry_index) c.self.view_is

slots_are : (c : After-detach) → map number_of c.remove-entry.new.self.items ≡ remove c.args.self.now.slots c.in-Some.entry_index
slots_are c =
    let entry_index = c.in-Some.entry_index in
    ap (map number_of) c.remove-entry.ensures.items ∙ map-remove number_of c.self.inside.entries.items entry_index ∙ ap (λ (s : HandlesState). remove s.slots entry_index) c.self.view_is

pub returns-clause-there : goal.returns-clause-there
returns-clause-there c = sym (ap is_some ((found c).entry (entry_of c.remove-entry.result)))

pub returns-clause-table : goal.returns-clause-table
returns-clause-table c = table_is c ∙ sym (found c).without

pub returns-clause-graphs : goal.returns-clause-graphs
returns-clause-graphs c =
    let h = c.args.self.now in
    let old = c.args.pool.now in
    ap (slot_graphs c.detach.new.pool) (slots_are c)
    ∙ graphs_removed old c.detach.new.pool h c.requires.tied c.args.handle c.in-Some.entry_index c.self.inside.next (within c) (here c) c.requires.unused (gone c) (others c)
    ∙ sym ((found c).graphs (slot_graphs old h.slots)
    (graphs_many c.args.handle h c.self.inside.entries.items c.deref.result.now c.self.inside.next c.self.view_is c.deref.ensures.value old))

pub returns-clause-tied : goal.returns-clause-tied
returns-clause-tied c =
    subst (IsTied c.detach.new.pool) (λ k. record { table = sym (table_is c) k; slots = sym (slots_are c) k; next = c.self.inside.next })
    (tied_removed c.args.pool.now c.detach.new.pool c.args.self.now c.requires.tied c.args.handle c.in-Some.entry_index c.self.inside.next (within c) (here c) c.requires.unused (gone c) (others c))

pub invariant_of-self : goal.invariant_of-self
invariant_of-self c =
    let entry_index = c.in-Some.entry_index in
    let e = c.remove-entry.ensures in
    let numbers : map (λ (x : Entry). x.handle) c.remove-entry.new.self.items ≡ remove (map (λ (x : Entry). x.handle) c.self.inside.entries.items) entry_index =
    ap (map (λ (x : Entry). x.handle)) e.items ∙ map-remove (λ (x : Entry). x.handle) c.self.inside.entries.items entry_index in (
      omega (arith, e.len, c.self.invariant.0),
      omega (arith, e.capacity, c.self.invariant.1),
      c.self.invariant.2,
      subst (RiseWithin 0 c.self.inside.next) (sym numbers) (rise_remove 0 c.self.inside.next (map (λ (x : Entry). x.handle) c.self.inside.entries.items) entry_index c.self.invariant.3),
    )
