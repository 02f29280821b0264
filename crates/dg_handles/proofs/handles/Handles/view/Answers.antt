use Rattle.std.proofs.Common.{Some, is_some, sym, ap, ◌∙◌}
use Rattle.dg_handles.specs.Handles.{members_at}
use Rattle.dg_handles.proofs.HandleEntries.{graph_beside, slot_listed}
use Rattle.dg_handles.proofs.HandlePlaces.{entry_in, graphs_many, missed_in, slot_in}
use Rattle.dg_handles.proofs.HandleTies.{live_slot}
use Rattle.dg_handles.proofs.handles.Handles.view.Goals as goal

pub returns-in_err-entry_index-clause-graph : goal.returns-in_err-entry_index-clause-graph
returns-in_err-entry_index-clause-graph c =
    let s = c.args.self.now in
    let entries = c.self.inside.entries.items in
    let missed = missed_in c.args.handle s entries c.deref.result.now c.self.inside.next c.self.view_is c.deref.ensures.value c.in_err-entry_index.ensures.none in
    c.from_residual.ensures ∙ sym (missed.graph _ (graphs_many c.args.handle s entries c.deref.result.now c.self.inside.next c.self.view_is c.deref.ensures.value c.args.pool.now))

pub returns-in_err-entry_index-clause-there : goal.returns-in_err-entry_index-clause-there
returns-in_err-entry_index-clause-there c =
    let missed = missed_in c.args.handle c.args.self.now c.self.inside.entries.items c.deref.result.now c.self.inside.next c.self.view_is c.deref.ensures.value c.in_err-entry_index.ensures.none in
    ap is_some c.from_residual.ensures ∙ sym (ap is_some missed.entry)

pub of-requires : goal.of-requires
of-requires c =
    let s = c.args.self.now in
    let slot = slot_in c.args.handle s c.self.inside.entries.items c.deref.result.now c.self.inside.next c.self.view_is c.deref.ensures.value c.in_ok-entry_index.entry_index c.in_ok-entry_index.ensures.some c.index.result.now c.index.ensures in
    live_slot c.args.pool.now s c.requires.tied c.index.result.now.slot.0 (slot_listed c.args.handle s.table s.slots c.index.result.now.slot.0 slot)

pub returns-clause-graph : goal.returns-clause-graph
returns-clause-graph c =
    let s = c.args.self.now in
    let slot = slot_in c.args.handle s c.self.inside.entries.items c.deref.result.now c.self.inside.next c.self.view_is c.deref.ensures.value c.in_ok-entry_index.entry_index c.in_ok-entry_index.ensures.some c.index.result.now c.index.ensures in
    ap Some c.of.ensures ∙ sym (graph_beside (members_at c.args.pool.now) c.args.handle s.table s.slots c.index.result.now.slot.0 slot)

pub returns-clause-there : goal.returns-clause-there
returns-clause-there c =
    sym (ap is_some (entry_in c.args.handle c.args.self.now c.self.inside.entries.items c.deref.result.now c.self.inside.next c.self.view_is c.deref.ensures.value c.in_ok-entry_index.entry_index c.in_ok-entry_index.ensures.some c.index.result.now c.index.ensures))
