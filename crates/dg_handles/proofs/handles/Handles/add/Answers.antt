use Rattle.std.proofs.Common.{arith, ◌≡◌, ℕ, ◌+◌, ◌++◌, List, Option, Some, length, map, sym, ap, ◌∙◌, subst}
use Rattle.std.proofs.lemmas.List.{map-append}
use Rattle.std.proofs.lemmas.List.Elements.{recursion_from_All}
use Rattle.std.proofs.Math.ListN.{length-map}
use Rattle.dg_fold.specs.declared.writing.Writing.{Writing}
use Rattle.dg_graph.specs.declared.element.Columns.{Columns}
use Rattle.dg_graph.specs.declared.element.Element.{Element}
use Rattle.dg_handles.specs.Attached.{AreAttached, graph_led}
use Rattle.dg_handles.specs.Handles.{BeginsOn, IsTied, slot_graphs, members_at, numbered, overlays_on}
use Rattle.dg_handles.proofs.AttachedLeads.{handles_begun, leads_many}
use Rattle.dg_handles.proofs.AttachedSlots.{graphs_kept, graphs_led, held_kept, members_led, overlays_held, stays, tied_more, with_more}
use Rattle.dg_handles.proofs.HandleEntries.{Entries}
use Rattle.dg_handles.proofs.HandleAdditions.{overlays_many}
use Rattle.dg_handles.proofs.HandleTies.{tie_is_kept}
use Rattle.dg_machine.specs.declared.stands.Stands.{Stands}
use Rattle.dg_pool.specs.declared.slots.Slot.{Slot}
use Rattle.dg_pool.specs.Changes.{numbers_of}
use Rattle.dg_pool.specs.Graphs.{PoolState, SlotGraph, slot_graph}
use Rattle.dg_retrieval.specs.Beginnings.{GraphLead, base_handle, leads_from, leads_in}
use Rattle.dg_retrieval.specs.declared.graph_lead.Beginning.{Beginning}
use Rattle.dg_handles.proofs.handles.Handles.add.Goals as goal

pub returns-in_err-slots-clause-tied : goal.returns-in_err-slots-clause-tied
returns-in_err-slots-clause-tied c = tie_is_kept c.args.pool.now c.attach_leads.new.pool c.args.self.now c.in_err-slots.ensures.err.slots c.requires.tied

pub overlays-requires : goal.overlays-requires
overlays-requires c = ap length c.deref.ensures.value ∙ sym (leads_many 0 c.args.leads.now.begins.items c.args.leads.now.writings.items) ∙ c.requires.leads

-- what is made for the beginnings stands for the leads
made_for : (cols : Columns) (times : List ℕ) (begun : List Beginning) (ws : List Writing) (read made : List Stands) (begins : List Beginning)
    → read ≡ made → made ≡ overlays_on cols times (map base_handle begins) → begins ≡ begun → read ≡ overlays_on cols times (map (λ (l : GraphLead). base_handle l.begins) (leads_from 0 begun ws))
made_for cols times begun ws read made begins same is from =
    same ∙ is ∙ ap (overlays_on cols times) (ap (λ (l : List Beginning). map base_handle l) from ∙ sym (handles_begun 0 begun ws))

-- as many slots as graphs
slots_many : (old new : PoolState) (slots : List Slot) (graphs : List SlotGraph) → AreAttached old new (numbers_of slots) graphs → length slots ≡ length graphs
slots_many old new slots graphs a =
    sym (length-map slots (λ (s : Slot). s.0)) ∙ sym (length-map (numbers_of slots) (slot_graph new)) ∙ ap length a.hold ∙ length-map graphs (λ (g : SlotGraph). Some g)

pub enter-requires-clause-slots : goal.enter-requires-clause-slots
enter-requires-clause-slots c =
    let h = c.args.self.now in
    let leads = leads_in c.args.leads.now in
    let graph = graph_led h c.args.pool.now c.args.cols in
    let stands = made_for c.args.cols c.args.times.now c.args.leads.now.begins.items c.args.leads.now.writings.items _ _ _ c.deref-2.ensures.value c.in_ok-stands.ensures c.deref.ensures.value in
    ap length c.deref-3.ensures.value ∙ slots_many c.args.pool.now c.attach_leads.new.pool c.in_ok-slots.slots.items (map graph leads) c.in_ok-slots.ensures.slots ∙ length-map leads graph
    ∙ c.requires.leads ∙ sym (ap length stands ∙ overlays_many c.args.cols c.args.times.now leads c.requires.leads)

pub enter-requires-clause-room : goal.enter-requires-clause-room
enter-requires-clause-room c =
    let stands = made_for c.args.cols c.args.times.now c.args.leads.now.begins.items c.args.leads.now.writings.items _ _ _ c.deref-2.ensures.value c.in_ok-stands.ensures c.deref.ensures.value in
    let many : length c.deref-2.result.now ≡ length c.args.times.now = ap length stands ∙ overlays_many c.args.cols c.args.times.now (leads_in c.args.leads.now) c.requires.leads in
    omega (arith, many, c.requires.room)

pub enter-requires-clause-numbers : goal.enter-requires-clause-numbers
enter-requires-clause-numbers c =
    let stands = made_for c.args.cols c.args.times.now c.args.leads.now.begins.items c.args.leads.now.writings.items _ _ _ c.deref-2.ensures.value c.in_ok-stands.ensures c.deref.ensures.value in
    let many : length c.deref-2.result.now ≡ length c.args.times.now = ap length stands ∙ overlays_many c.args.cols c.args.times.now (leads_in c.args.leads.now) c.requires.leads in
    omega (arith, many, c.requires.numbers)

attached : (c : goal.After-drop-stands-2) → AreAttached c.args.pool.now c.attach_leads.new.pool (numbers_of c.in_ok-slots.slots.items) (map (graph_led c.args.self.now c.args.pool.now c.args.cols) (leads_in c.args.leads.now))
attached c = c.in_ok-slots.ensures.slots

slots_are : (c : goal.After-drop-stands-2) → c.enter.new.self.slots ≡ c.args.self.now.slots ++ numbers_of c.in_ok-slots.slots.items
slots_are c = c.enter.ensures.slots ∙ ap (λ (l : List Slot). c.args.self.now.slots ++ numbers_of l) c.deref-3.ensures.value

-- what stands for the new graphs
abbrev new_stands : goal.After-drop-stands-2 → List Stands
new_stands c = overlays_on c.args.cols c.args.times.now (map (λ (l : GraphLead). base_handle l.begins) (leads_in c.args.leads.now))

stands_are : (c : goal.After-drop-stands-2) → c.deref-2.result.now ≡ new_stands c
stands_are c = made_for c.args.cols c.args.times.now c.args.leads.now.begins.items c.args.leads.now.writings.items _ _ _ c.deref-2.ensures.value c.in_ok-stands.ensures c.deref.ensures.value

stands_many : (c : goal.After-drop-stands-2) → length c.deref-2.result.now ≡ length c.args.times.now
stands_many c = ap length (stands_are c) ∙ overlays_many c.args.cols c.args.times.now (leads_in c.args.leads.now) c.requires.leads

table_is : (c : goal.After-drop-stands-2) → c.enter.new.self.table ≡ c.args.self.now.table ++ numbered c.args.self.now.next (new_stands c)
table_is c = c.enter.ensures.table ∙ ap (λ (l : List Stands). c.args.self.now.table ++ numbered c.args.self.now.next l) (stands_are c)

pub returns-clause-table : goal.returns-clause-table
returns-clause-table c = table_is c

pub returns-clause-next : goal.returns-clause-next
returns-clause-next c = c.enter.ensures.next ∙ ap (λ n. c.args.self.now.next + n) (stands_many c)

pub returns-clause-graphs : goal.returns-clause-graphs
returns-clause-graphs c =
    let h = c.args.self.now in
    let old = c.args.pool.now in
    let new = c.attach_leads.new.pool in
    let slots = numbers_of c.in_ok-slots.slots.items in
    let leads = leads_in c.args.leads.now in
    ap (slot_graphs new) (slots_are c) ∙ map-append (members_at new) h.slots slots
    ∙ ap (λ (l : List (List Element)). l ++ slot_graphs new slots) (held_kept old new h c.requires.tied slots (map (graph_led h old c.args.cols) leads) (attached c))
    ∙ ap (λ (l : List (List Element)). slot_graphs old h.slots ++ l) (members_led h old new c.args.cols slots leads (attached c).hold)

pub returns-clause-rests : goal.returns-clause-rests
returns-clause-rests c =
    let h = c.args.self.now in
    let old = c.args.pool.now in
    let new = c.attach_leads.new.pool in
    let slots = numbers_of c.in_ok-slots.slots.items in
    let leads = leads_in c.args.leads.now in
    ap (map (slot_graph new)) (slots_are c) ∙ map-append (slot_graph new) h.slots slots
    ∙ ap (λ (l : List (Option SlotGraph)). l ++ map (slot_graph new) slots) (graphs_kept old new h c.requires.tied slots (map (graph_led h old c.args.cols) leads) (attached c))
    ∙ ap (λ (l : List (Option SlotGraph)). map (slot_graph old) h.slots ++ l) ((attached c).hold ∙ graphs_led (graph_led h old c.args.cols) leads)

pub returns-clause-tied : goal.returns-clause-tied
returns-clause-tied c =
    let h = c.args.self.now in
    let old = c.args.pool.now in
    let leads = leads_in c.args.leads.now in
    let slots = numbers_of c.in_ok-slots.slots.items in
    let last = c.enter.new.self.next in
    let more : Entries = numbered h.next (new_stands c) in
    subst (IsTied c.attach_leads.new.pool) (λ k. record { table = sym (table_is c) k; slots = sym (slots_are c) k; next = last })
    (tied_more old c.attach_leads.new.pool h c.requires.tied more slots last (map (graph_led h old c.args.cols) leads) (attached c)
    (overlays_held old h (with_more h more slots last) c.requires.tied (λ handle. stays h more slots last handle) c.args.cols h.next c.args.times.now leads c.requires.leads
    (recursion_from_All (BeginsOn h.table c.args.cols) leads c.requires.bases)))
