use Rattle.std.proofs.Common.{◌≡◌, ◌+◌, ap, arith}
use Rattle.dg_history.specs.declared.form.Form.TheVariants as form
use Rattle.dg_index.specs.OpenedIndex.{Opening}
use Rattle.dg_file.specs.Index.{IndexState}
use Rattle.dg_file.proofs.InvariantBatches.{marked_sound}
use Rattle.dg_file.proofs.index.Index.note_marker.Goals as goal

pub invariant_of-self : goal.invariant_of-self
invariant_of-self c =
    let o : Opening = record { params = c.self.inside.params; form = c.self.inside.form; batches = c.self.inside.batches.items; records = c.self.inside.catalogue.entries; used = c.self.inside.used } in
    let used : c.self.inside.used ≡ c.args.self.now.opening.used = ap (λ (v : IndexState). v.opening.used) c.self.view_is in
    marked_sound o c.self.inside.events c.self.inside.names c.self.inside.earliest c.self.inside.listed c.self.inside.catalogue.span (form.Upgraded c.len.result) (c.self.inside.used + 25) c.self.invariant (omega arith) (omega (arith, used, c.requires))
