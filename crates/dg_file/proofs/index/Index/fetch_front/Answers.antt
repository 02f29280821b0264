use Rattle.std.proofs.Common.{◌≡◌, ◌≤◌, arith, Some, length, take, drop, sym, ap, subst, ◌∙◌}
use Rattle.std.specs.Prelude.{IfSome}
use Rattle.std.specs.Map.{lookup}
use Rattle.std.specs.Option.{is_some}
use Rattle.std.proofs.lemmas.Result.{IfOk-weaker}
use Rattle.dg_disk.specs.Image.{HasRange}
use Rattle.dg_history.specs.Keys.{same_key}
use Rattle.dg_index.specs.declared.entry.Entry.{Entry}
use Rattle.dg_index.specs.OpenedIndex.{Opening, column_at}
use Rattle.dg_catalogue.specs.Entries.{column_length_in, offset_in, IsInRange}
use Rattle.dg_file.specs.Images.{taken_after}
use Rattle.dg_file.specs.Index.{IndexState}
use Rattle.dg_file.proofs.ImageColumns.{column_there, front_read, front_there, ok_both}
use Rattle.dg_file.proofs.index.Index.fetch_front.Goals as goal

pub unwrap-entry-requires : goal.unwrap-entry-requires
unwrap-entry-requires g c =
    ap is_some (c.entry.ensures.entry ∙ ap (λ (v : IndexState). lookup (same_key c.args.key) v.opening.records) c.self.view_is) ∙ c.requires.held

pub column_offset-requires : goal.column_offset-requires
column_offset-requires g c = subst (λ o. IfSome o IsInRange) c.unwrap-entry.ensures c.entry.ensures.in_range

pub read_range-requires : goal.read_range-requires
read_range-requires g c =
    let o : Opening = c.args.self.now.opening in
    let x = g.D.Disk.image c.args.disk.now in
    let e : Entry = c.unwrap-entry.result in
    let there : lookup (same_key c.args.key) o.records ≡ Some e = ap (λ (v : IndexState). lookup (same_key c.args.key) v.opening.records) (sym c.self.view_is) ∙ sym c.entry.ensures.entry ∙ c.unwrap-entry.ensures in
    let short : c.front_length-len.result ≤ column_length_in e c.args.col = omega (arith, c.front_length-len.ensures) in
    subst (λ n. HasRange x n c.front_length-len.result) (sym c.column_offset.ensures) (front_there x (offset_in e c.args.col) (column_length_in e c.args.col) c.front_length-len.result short (column_there x o c.args.key c.args.col e there c.requires.image))

pub returns-clause-bytes : goal.returns-clause-bytes
returns-clause-bytes g c =
    let o : Opening = c.args.self.now.opening in
    let x = g.D.Disk.image c.args.disk.now in
    let e : Entry = c.unwrap-entry.result in
    let there : lookup (same_key c.args.key) o.records ≡ Some e = ap (λ (v : IndexState). lookup (same_key c.args.key) v.opening.records) (sym c.self.view_is) ∙ sym c.entry.ensures.entry ∙ c.unwrap-entry.ensures in
    IfOk-weaker c.read_range.result (λ bytes. IfSome x (λ image. bytes.items ≡ take c.front_length-len.result (drop c.column_offset.result image))) (λ bytes. IfSome x (λ image. IfSome (lookup (same_key c.args.key) o.records) (λ e. bytes.items ≡ take c.args.most (column_at image e c.args.col))))
    (λ bytes h. front_read x o c.args.key c.args.col e c.column_offset.result c.args.most c.front_length-len.result bytes.items there c.column_offset.ensures c.front_length-len.ensures h) c.read_range.ensures.bytes

pub returns-clause-taken : goal.returns-clause-taken
returns-clause-taken g c =
    ok_both c.read_range.result (λ bytes. length bytes.items ≡ c.front_length-len.result) (λ bytes. g.D.Disk.taken c.read_range.new.disk ≡ taken_after c.front_length-len.result (g.D.Disk.taken c.args.disk.now)) (λ bytes. g.D.Disk.taken c.read_range.new.disk ≡ taken_after (length bytes.items) (g.D.Disk.taken c.args.disk.now))
    (λ bytes l t. t ∙ ap (λ m. taken_after m (g.D.Disk.taken c.args.disk.now)) (sym l)) c.read_range.ensures.len c.read_range.ensures.taken
