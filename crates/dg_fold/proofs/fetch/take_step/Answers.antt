use Rattle.std.proofs.Common.{◌≡◌, ◌++◌, [], ◌∷◌, List, None, refl, sym, ap, subst, ◌∙◌}
use Rattle.std.specs.List.{Contains}
use Rattle.std.proofs.lemmas.List.Elements.{All-contains}
use Rattle.dg_graph.specs.declared.element.Column.{Column}
use Rattle.dg_fold.specs.declared.part.Part.{Part}
use Rattle.dg_fold.specs.BytesRead.{AreParts, named_by}
use Rattle.dg_fold.specs.Parts.{bytes_in, graph_columns}
use Rattle.dg_fold.proofs.BytesReadGrowth.{own_bytes, part_more}
use Rattle.dg_records.specs.ColumnReads.{asked_column, kept_in}
use Rattle.dg_fold.proofs.fetch.take_step.Goals as goal

pub returns-in_ok-add-in-Paid-clause-parts : goal.returns-in_ok-add-in-Paid-clause-parts
returns-in_ok-add-in-Paid-clause-parts g c = λ image is named h.
    let bytes = kept_in image c.args.index.now.opening in
    let part : Part = record { key = c.in-Paid.key; way = c.in-Paid.way; until = None; bytes = c.in_ok-bytes-in-Paid.bytes } in
    subst (λ l. AreParts bytes c.args.cols (named ++ named_by c.args.via) l) (sym {A = List Part} c.in_ok-add-in-Paid.ensures)
    (subst (λ v. AreParts bytes c.args.cols (named ++ named_by v) (c.args.parts.now.items ++ part ∷ [])) (sym c.in-Paid.is)
    (part_more bytes c.args.cols named c.args.parts.now.items (c.in-Paid.key, c.in-Paid.way) part h
    (record { key = refl; way = refl; until = refl; columns = c.in_ok-bytes-in-Paid.ensures.bytes image is })))

pub returns-in_ok-add-in-Held-clause-parts : goal.returns-in_ok-add-in-Held-clause-parts
returns-in_ok-add-in-Held-clause-parts g c = λ image is named h.
    let bytes = kept_in image c.args.index.now.opening in
    let part : Part = record { key = c.in-Held.key; way = c.in-Held.way; until = None; bytes = c.in_ok-bytes-in-Held.bytes } in
    let old = c.in_ok-bytes-in-Held.ensures in
    let own = All-contains (λ (p : Part). (col : Column) → bytes_in p.bytes col ≡ asked_column bytes (graph_columns c.args.cols) p.key col) c.args.parts.now.items old.0
    (own_bytes bytes c.args.cols named c.args.parts.now.items h) (subst (λ l. Contains l old.0) c.as_slice.ensures.value old.1) in
    subst (λ l. AreParts bytes c.args.cols (named ++ named_by c.args.via) l) (sym {A = List Part} c.in_ok-add-in-Held.ensures)
    (subst (λ v. AreParts bytes c.args.cols (named ++ named_by v) (c.args.parts.now.items ++ part ∷ [])) (sym c.in-Held.is)
    (part_more bytes c.args.cols named c.args.parts.now.items (c.in-Held.key, c.in-Held.way) part h
    (record { key = refl; way = refl; until = refl; columns = λ col. old.3 col ∙ own col ∙ ap (λ key. asked_column bytes (graph_columns c.args.cols) key col) old.2 })))
