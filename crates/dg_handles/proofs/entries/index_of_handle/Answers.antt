use Rattle.std.proofs.Common.{below_more, sym, ◌∙◌}
use Rattle.std.proofs.lemmas.List.{get_or-map}
use Rattle.dg_handles.specs.declared.entries.Entry.{Entry}
use Rattle.dg_handles.proofs.entries.index_of_handle.Goals as goal

pub loop-entry_index-preserved : goal.loop-entry_index-preserved
loop-entry_index-preserved c =
    below_more _ _ c.loop-entry_index.invariant
    (λ is. c.if-entry-handle.false (sym (get_or-map (λ (e : Entry). e.handle) c.args.entries.now c.loop-entry_index.entry_index _ 0 c.loop-entry_index-test.true) ∙ is))
