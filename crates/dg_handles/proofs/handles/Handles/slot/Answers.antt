use Rattle.std.proofs.Common.{option_map, sym, ap, ◌∙◌}
use Rattle.dg_handles.proofs.HandlePlaces.{missed_in, slot_in}
use Rattle.dg_handles.proofs.handles.Handles.slot.Goals as goal

pub returns-in_err-entry_index : goal.returns-in_err-entry_index
returns-in_err-entry_index c =
    let missed = missed_in c.args.handle c.args.self.now c.self.inside.entries.items c.deref.result.now c.self.inside.next c.self.view_is c.deref.ensures.value c.in_err-entry_index.ensures.none in
    ap (option_map (λ s. s.0)) c.from_residual.ensures ∙ sym missed.slot

pub returns : goal.returns
returns c =
    sym (slot_in c.args.handle c.args.self.now c.self.inside.entries.items c.deref.result.now c.self.inside.next c.self.view_is c.deref.ensures.value c.in_ok-entry_index.entry_index c.in_ok-entry_index.ensures.some c.index.result.now c.index.ensures)
