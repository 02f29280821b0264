use Rattle.std.proofs.Common.{◌≡◌, ℕ, ◌+◌, List, None, Err, take, drop, sym, ap, subst, ◌∙◌}
use Rattle.std.specs.Prelude.{IfSome}
use Rattle.dg_disk.specs.Image.{HasRange}
use Rattle.dg_index.specs.OpenedIndex.{Opening, Opened}
use Rattle.dg_segment.specs.Directories.{TakesDirectory, directory_due}
use Rattle.dg_file.specs.Index.{IndexState}
use Rattle.dg_file.proofs.ImageParts.{some_weaker}
use Rattle.dg_file.proofs.IndexBytes.{after_most}
use Rattle.dg_file.proofs.index.Index.read_found.Goals as goal

pub read_range-requires : goal.read_range-requires
read_range-requires g c =
    let same : c.self.inside.used ≡ c.args.self.now.opening.used = ap (λ (v : IndexState). v.opening.used) c.self.view_is in
    subst (λ n. HasRange (g.D.Disk.image c.args.disk.now) (n + 16) c.args.lengths.directory) (sym same) c.requires

pub returns-in-Err-Broken-clause-refused : goal.returns-in-Err-Broken-clause-refused
returns-in-Err-Broken-clause-refused g c =
    let o : Opening = c.args.self.now.opening in
    let y : Opened = record { index = o; names = c.args.names.now } in
    let offset : ℕ = c.self.inside.used in
    let directory : ℕ = c.args.lengths.directory in
    let columns : ℕ = c.args.lengths.columns in
    let text : List ℕ = c.in_ok-text.text.items in
    let same : offset ≡ o.used = ap (λ (v : IndexState). v.opening.used) c.self.view_is in
    let here : c.deref.result.now ≡ text = c.deref.ensures.value in
    let none : directory_due y columns text ≡ None = ap (λ (b : List ℕ). directory_due y columns b) (sym here) ∙ c.in-Err-Broken.ensures.broken (ap (λ e. Err e) c.in-Err-Broken.field-0-is) in
    some_weaker (g.D.Disk.image c.args.disk.now) (λ image. text ≡ take directory (drop (offset + 16) image)) (λ image. (offset ≡ o.used) × (directory_due y columns (take directory (drop (o.used + 16) image)) ≡ None))
    (λ image e. (same, ap (λ (b : List ℕ). directory_due y columns b) (sym (e ∙ ap (λ n. take directory (drop (n + 16) image)) same)) ∙ none)) c.in_ok-text.ensures.bytes

pub returns-in-Err-Broken-clause-bounded : goal.returns-in-Err-Broken-clause-bounded
returns-in-Err-Broken-clause-bounded g c =
    after_most c.args.lengths.directory (g.D.Disk.taken c.args.disk.now) (g.D.Disk.taken c.read_range.new.disk) c.in_ok-text.ensures.taken

pub returns-in-Err-Memory-clause-bounded : goal.returns-in-Err-Memory-clause-bounded
returns-in-Err-Memory-clause-bounded g c =
    after_most c.args.lengths.directory (g.D.Disk.taken c.args.disk.now) (g.D.Disk.taken c.read_range.new.disk) c.in_ok-text.ensures.taken

pub returns-clause-found : goal.returns-clause-found
returns-clause-found g c =
    let o : Opening = c.args.self.now.opening in
    let directory : ℕ = c.args.lengths.directory in
    let text : List ℕ = c.in_ok-text.text.items in
    let same : c.self.inside.used ≡ o.used = ap (λ (v : IndexState). v.opening.used) c.self.view_is in
    record {
      bytes = text;
      there = subst (λ n. IfSome (g.D.Disk.image c.args.disk.now) (λ image. text ≡ take directory (drop (n + 16) image))) same c.in_ok-text.ensures.bytes;
      len = c.in_ok-text.ensures.len;
      taken = subst (λ (b : List ℕ). TakesDirectory o c.args.lengths.columns b c.args.names.now c.read_directory.new.names c.in-Ok.found) c.deref.ensures.value c.in-Ok.ensures.taken;
    }
