use Rattle.std.proofs.Common.{◌≡◌, ◌-◌, Some, length, ap, ◌∙◌}
use Rattle.std.specs.Prelude.{slice_get}
use Rattle.dg_index.specs.declared.entry.BatchEntry.{BatchEntry}
use Rattle.dg_index.specs.IndexGrowth.{last_time_in}
use Rattle.dg_file.specs.Index.{IndexState}
use Rattle.dg_file.proofs.InvariantBatches.{last_is}
use Rattle.dg_file.proofs.index.Index.last_time.Goals as goal

pub returns : goal.returns
returns c =
    let b : BatchEntry = c.in_ok-last.field-0.now in
    let there : slice_get c.self.inside.batches.items (length c.self.inside.batches.items - 1) ≡ Some b = cc (c.in_ok-last.ensures.value, c.deref.ensures.value) in
    last_is c.self.inside.batches.items b there ∙ ap (λ (v : IndexState). last_time_in v.opening.batches) c.self.view_is
