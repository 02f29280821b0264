use Rattle.std.proofs.Common.{arith, ◌≡◌, ℕ, true, false, List, All, None, length, map, sym, ap, subst, ◌∙◌}
use Rattle.dg_fold.specs.declared.writing.Writing.{Writing}
use Rattle.dg_handles.specs.Attached.{AreAttached, graph_begun}
use Rattle.dg_handles.specs.Handles.{CanBegin}
use Rattle.dg_handles.specs.Written.{AreWritten}
use Rattle.dg_handles.proofs.AttachedLeads.{attached_ended, attached_written, can_begin, can_change_new, leads_many}
use Rattle.dg_pool.specs.Changes.{CanChange, numbers_of}
use Rattle.dg_pool.specs.Graphs.{is_listed, slot_graph}
use Rattle.dg_pool.specs.declared.slots.Slot.{Slot}
use Rattle.dg_retrieval.specs.Beginnings.{leads_in}
use Rattle.dg_retrieval.specs.declared.graph_lead.Beginning.{Beginning}
use Rattle.dg_handles.proofs.handles.Handles.attach_leads.Goals as goal
use Rattle.dg_handles.proofs.handles.Handles.attach_leads.Goals.{In_ok-attached}

pub attach_all-requires-clause-room : goal.attach_all-requires-clause-room
attach_all-requires-clause-room c =
    let leads = c.args.leads.now in
    let many : length c.deref.result.now ≡ length (leads_in leads) = ap length c.deref.ensures.value ∙ sym (leads_many 0 leads.begins.items leads.writings.items) in
    omega (arith, many, c.requires.room)

pub attach_all-requires-clause-bases : goal.attach_all-requires-clause-bases
attach_all-requires-clause-bases c =
    let leads = c.args.leads.now in
    subst (λ (l : List Beginning). All (CanBegin c.args.self.now.table c.args.cols) l) (sym c.deref.ensures.value)
    (can_begin c.args.self.now c.args.cols leads.begins.items leads.writings.items c.requires.bases)

on : (c : In_ok-attached) → All (CanBegin c.args.self.now.table c.args.cols) c.args.leads.now.begins.items
on c = can_begin c.args.self.now c.args.cols c.args.leads.now.begins.items c.args.leads.now.writings.items c.requires.bases

attached : (c : In_ok-attached) → AreAttached c.args.pool.now c.attach_all.new.pool (numbers_of c.in_ok-attached.attached.items) (map (graph_begun c.args.self.now c.args.pool.now c.args.cols) c.args.leads.now.begins.items)
attached c =
    subst (λ (l : List Beginning). AreAttached c.args.pool.now c.attach_all.new.pool (numbers_of c.in_ok-attached.attached.items) (map (graph_begun c.args.self.now c.args.pool.now c.args.cols) l))
    c.deref.ensures.value c.in_ok-attached.ensures.slots

pub write_all-requires : goal.write_all-requires
write_all-requires c =
    let b = (goal.at.write_all-requires c).In_ok-attached in
    subst (λ (l : List Slot). CanChange (numbers_of l) c.attach_all.new.pool) (sym c.deref-2.ensures.value)
    (can_change_new c.args.pool.now c.args.self.now c.requires.tied c.args.cols c.attach_all.new.pool (numbers_of c.in_ok-attached.attached.items) c.args.leads.now.begins.items (on b) (attached b))

pub returns-in-Ok-clause-slots : goal.returns-in-Ok-clause-slots
returns-in-Ok-clause-slots c =
    let b = (goal.at.returns-in-Ok-clause-slots c).In_ok-attached in
    let old = c.args.pool.now in
    let mid = c.attach_all.new.pool in
    let new = c.write_all.new.pool in
    let leads = c.args.leads.now in
    let slots = numbers_of c.in_ok-attached.attached.items in
    let same = ap numbers_of c.deref-2.ensures.value in
    attached_written old c.args.self.now c.requires.tied c.args.cols c.facts.ensures.sets c.facts.ensures.now mid new leads.writings.items slots leads.begins.items (on b) (attached b)
    (subst (λ (l : List ℕ). AreWritten 0 l leads.writings.items mid new) same
    (subst (λ (ws : List Writing). AreWritten 0 (numbers_of c.deref-2.result.now) ws mid new) c.deref-3.ensures.value c.in-Ok.ensures.written))
    (subst (λ (l : List ℕ). (s : ℕ) → is_listed l s ≡ false → slot_graph new s ≡ slot_graph mid s) same c.write_all.ensures.others)
    c.write_all.ensures.now

pub detach_all-requires-clause-unused : goal.detach_all-requires-clause-unused
detach_all-requires-clause-unused c =
    let same = c.deref-2.ensures.value ∙ sym c.deref-in-Err.ensures.value in
    (subst (λ (l : List Slot). CanChange (numbers_of l) c.write_all.new.pool) same c.write_all.ensures.can).unused

pub returns-in-Err-clause-err : goal.returns-in-Err-clause-err
returns-in-Err-clause-err c =
    let b = (goal.at.returns-in-Err-clause-err c).In_ok-attached in
    let old = c.args.pool.now in
    let mid = c.attach_all.new.pool in
    let new = c.write_all.new.pool in
    let last = c.detach_all.new.pool in
    let slots = numbers_of c.in_ok-attached.attached.items in
    let written = ap numbers_of c.deref-2.ensures.value in
    let ended = ap numbers_of c.deref-in-Err.ensures.value in
    attached_ended old mid new last slots (map (graph_begun c.args.self.now old c.args.cols) c.args.leads.now.begins.items) (attached b)
    (subst (λ (l : List ℕ). (s : ℕ) → is_listed l s ≡ false → slot_graph new s ≡ slot_graph mid s) written c.write_all.ensures.others)
    c.write_all.ensures.now
    (subst (λ (l : List ℕ). (s : ℕ) → is_listed l s ≡ true → slot_graph last s ≡ None) ended c.detach_all.ensures.gone)
    (subst (λ (l : List ℕ). (s : ℕ) → is_listed l s ≡ false → slot_graph last s ≡ slot_graph new s) ended c.detach_all.ensures.others)
    c.detach_all.ensures.now
