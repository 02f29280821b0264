use Rattle.std.proofs.Common.{sym, ◌∙◌}
use Rattle.dg_handles.proofs.HandlePlaces.{entry_in, missed_in}
use Rattle.dg_handles.proofs.handles.Handles.stands.Goals as goal

pub returns-in_err-entry_index : goal.returns-in_err-entry_index
returns-in_err-entry_index c =
    let missed = missed_in c.args.handle c.args.self.now c.self.inside.entries.items c.deref.result.now c.self.inside.next c.self.view_is c.deref.ensures.value c.in_err-entry_index.ensures.none in
    c.from_residual.ensures ∙ sym missed.entry

pub returns : goal.returns
returns c =
    sym (entry_in c.args.handle c.args.self.now c.self.inside.entries.items c.deref.result.now c.self.inside.next c.self.view_is c.deref.ensures.value c.in_ok-entry_index.entry_index c.in_ok-entry_index.ensures.some c.index.result.now c.index.ensures)
