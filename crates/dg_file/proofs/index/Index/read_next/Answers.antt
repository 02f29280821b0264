use Rattle.std.proofs.Common.{◌≡◌, ℕ, ◌+◌, ◌≤◌, List, None, take, drop, sym, ap, subst, ◌∙◌, arith, false}
use Rattle.std.specs.Prelude.{◌≢◌, IfErr, IfOk, IfSome, OnOk, slice_index}
use Rattle.std.proofs.lemmas.Result.{IfErr-weaker, err_from_is_err_and, on_err_weaker, on_ok_weaker}
use Rattle.dg_disk.specs.Image.{IsLengthOf}
use Rattle.dg_index.specs.IndexGrowth.{columns_in, name_total}
use Rattle.dg_index.specs.OpenedIndex.{Opening, opening, keys_next, event_total, earliest_in, first_in, last_list, may_be_listed, may_follow}
use Rattle.dg_catalogue.specs.Additions.{Suits, bytes_of_rows}
use Rattle.dg_history.specs.declared.node.Key.{Key}
use Rattle.dg_segment.specs.declared.lengths.Lengths.{Lengths}
use Rattle.dg_segment.specs.Directories.{FindsDirectory, directory_due}
use Rattle.dg_file.specs.Headers.{Misses, IsOpenedSoFar}
use Rattle.dg_index.specs.ImageText.{eight_at, is_within}
use Rattle.dg_file.specs.Index.{IndexState, opening_bytes}
use Rattle.dg_file.specs.Images.{RefusesOpening}
use Rattle.dg_index.specs.declared.entry.BatchEntry.{BatchEntry}
use Rattle.dg_file.specs.Invariant.{with_rows}
use Rattle.dg_file.proofs.ImageParts.{fit_facts, range_within}
use Rattle.dg_file.proofs.HeaderSegments.{outside, broken, marked_so_far, marked_taken, marks_narrow, next_on, no_events, taken_next}
use Rattle.dg_file.proofs.InvariantBatches.{bytes_with}
use Rattle.dg_file.proofs.GrowthMoves.{on_err_any}
use Rattle.dg_disk.proofs.FrameLemmas.{reads_then}
use Rattle.dg_file.proofs.IndexBytes.{behind_most, behind_reads, directory_most, found_reads, gate_most, gate_reads, lengths_most, rose_after}
use Rattle.dg_file.proofs.OpenedBytes.{stays_at_lengths, stays_in_segment}
use Rattle.dg_disk.specs.Counts.{raised_by}
use Rattle.dg_file.proofs.index.Index.read_next.Goals as goal

pub returns-in_err-lengths-clause-refused : goal.returns-in_err-lengths-clause-refused
returns-in_err-lengths-clause-refused g c =
    let x = g.D.Disk.image c.args.disk.now in
    let o : Opening = c.args.self.now.opening in
    let same : c.self.inside.used ≡ o.used = ap (λ (v : IndexState). v.opening.used) c.self.view_is in
    let misses = subst (λ n. IfSome x (λ image. Misses n (is_within image n ≡ false) c.in_err-lengths.field-0.0)) same c.in_err-lengths.ensures.refused in
    let rest : IfSome x (λ image. RefusesOpening c.in_err-lengths.field-0.0 (opening image)) = outside x o c.args.names.now c.in_err-lengths.field-0.0 c.requires.so_far misses in
    let p = err_from_is_err_and c.from_residual.result c.from_residual.ensures.1 in
    rw (p.1, p.2) rest

pub read_found-requires : goal.read_found-requires
read_found-requires g c =
    let same : c.self.inside.used ≡ c.args.self.now.opening.used = ap (λ (v : IndexState). v.opening.used) c.self.view_is in
    let f = fit_facts c.self.inside.used c.read_lengths.new.len c.in_ok-lengths.lengths c.in_ok-lengths.ensures.fit in
    range_within _ _ c.in_ok-lengths.lengths.directory c.read_lengths.new.len (omega (arith, f, same)) (subst (λ x. IsLengthOf x c.read_lengths.new.len) (sym c.read_lengths.ensures.frame.same_image) c.read_lengths.ensures.len)

pub returns-in_err-found-clause-refused : goal.returns-in_err-found-clause-refused
returns-in_err-found-clause-refused g c =
    let x = g.D.Disk.image c.args.disk.now in
    let o : Opening = c.args.self.now.opening in
    let h : Lengths = c.in_ok-lengths.lengths in
    let same : c.self.inside.used ≡ o.used = ap (λ (v : IndexState). v.opening.used) c.self.view_is in
    let misses = subst (λ y. IfSome y (λ image. Misses o.used (directory_due (record { index = o; names = c.args.names.now }) h.columns (take h.directory (drop (o.used + 16) image)) ≡ None) c.in_err-found.field-0.0)) c.read_lengths.ensures.frame.same_image c.in_err-found.ensures.refused in
    let rest : IfSome x (λ image. RefusesOpening c.in_err-found.field-0.0 (opening image)) = broken x o c.args.names.now c.self.inside.used h c.in_err-found.field-0.0 same (sym c.may_be_marked.ensures ∙ c.if-may_be_marked.false) c.requires.so_far c.in_ok-lengths.ensures.lengths misses in
    let p = err_from_is_err_and c.from_residual-in_err-found.result c.from_residual-in_err-found.ensures.1 in
    rw (p.1, p.2) rest

pub read_byte-requires : goal.read_byte-requires
read_byte-requires g c =
    let f = fit_facts c.self.inside.used c.read_lengths.new.len c.in_ok-lengths.lengths c.in_ok-lengths.ensures.fit in
    range_within _ _ 1 c.read_lengths.new.len (omega (arith, f)) (subst (λ x. IsLengthOf x c.read_lengths.new.len) (sym (c.read_found.ensures.frame.same_image ∙ c.read_lengths.ensures.frame.same_image)) c.read_lengths.ensures.len)

pub overflow_add-gate_offset-2 : goal.overflow_add-gate_offset-2
overflow_add-gate_offset-2 g c =
    let f = fit_facts c.self.inside.used c.read_lengths.new.len c.in_ok-lengths.lengths c.in_ok-lengths.ensures.fit in
    omega (arith, f)

pub note-requires-clause-keys : goal.note-requires-clause-keys
note-requires-clause-keys g c =
    c.deref.ensures.value ∙ c.in_ok-found.ensures.found.taken.keys ∙ ap (λ (o : Opening). keys_next o c.in_ok-found.found.batch.events) (sym c.reserve.ensures.same)

pub note-requires-clause-follows : goal.note-requires-clause-follows
note-requires-clause-follows g c =
    ap (λ (o : Opening). may_follow (event_total o.batches) (earliest_in 0 o.batches) c.in_ok-found.found.batch) c.reserve.ensures.same ∙ c.in_ok-found.ensures.found.taken.follows

pub note-requires-clause-listed : goal.note-requires-clause-listed
note-requires-clause-listed g c =
    let b : BatchEntry = c.in_ok-found.found.batch in
    (λ i. may_be_listed (last_list (first_in b.ends.first (c.reserve.ensures.same i).batches) (c.reserve.ensures.same i).records) b.ends.last (c.deref-2.ensures.value i))
    ∙ c.in_ok-found.ensures.found.taken.listed

pub note-requires-clause-within : goal.note-requires-clause-within
note-requires-clause-within g c =
    let f = fit_facts c.self.inside.used c.read_lengths.new.len c.in_ok-lengths.lengths c.in_ok-lengths.ensures.fit in
    omega (arith, f)

pub returns-clause-within : goal.returns-clause-within
returns-clause-within g c =
    let f = fit_facts c.self.inside.used c.read_lengths.new.len c.in_ok-lengths.lengths c.in_ok-lengths.ensures.fit in
    omega (arith, f, ap (λ (o : Opening). o.used) c.note.ensures)

pub returns-clause-so_far : goal.returns-clause-so_far
returns-clause-so_far g c =
    let x = g.D.Disk.image c.args.disk.now in
    let o : Opening = c.args.self.now.opening in
    let same : c.self.inside.used ≡ o.used = ap (λ (v : IndexState). v.opening.used) c.self.view_is in
    let offset : ℕ = c.self.inside.used in
    let h : Lengths = c.in_ok-lengths.lengths in
    let l = c.in_ok-lengths.ensures.lengths in
    let finds : FindsDirectory (g.D.Disk.image c.read_lengths.new.disk) o h c.args.names.now c.read_found.new.names c.in_ok-found.found = c.in_ok-found.ensures.found in
    let t : IfSome x (λ image. finds.bytes ≡ take h.directory (drop (offset + 16) image)) = subst (λ n. IfSome x (λ image. finds.bytes ≡ take h.directory (drop (n + 16) image))) (sym same) (subst (λ y. IfSome y (λ image. finds.bytes ≡ take h.directory (drop (o.used + 16) image))) c.read_lengths.ensures.frame.same_image finds.there) in
    let takes = finds.taken in
    let gate : IfSome x (λ image. c.in_ok-gate.gate ≡ slice_index image (offset + 16 + h.directory + h.columns)) = subst (λ y. IfSome y (λ image. c.in_ok-gate.gate ≡ slice_index image (offset + 16 + h.directory + h.columns))) (c.read_found.ensures.frame.same_image ∙ c.read_lengths.ensures.frame.same_image) c.in_ok-gate.ensures.byte in
    let new : c.note.new.self.opening ≡ with_rows o c.in_ok-found.found.batch c.in_ok-found.found.rows.items (offset + 16 + h.directory) (offset + 16 + h.directory + h.columns + 1) = c.note.ensures ∙ (λ i. with_rows (c.reserve.ensures.same i) c.in_ok-found.found.batch (c.deref-2.ensures.value i) (offset + 16 + h.directory) (offset + 16 + h.directory + h.columns + 1)) in
    subst (λ (n : Opening). IfSome x (λ image. IsOpenedSoFar image n c.read_found.new.names c.in_ok-gate.gate)) (sym new)
    (next_on x o c.args.names.now c.read_found.new.names offset c.read_lengths.new.len c.in_ok-gate.gate h finds.bytes c.in_ok-found.found same (sym c.may_be_marked.ensures ∙ c.if-may_be_marked.false) c.in_ok-lengths.ensures.fit c.requires.so_far c.read_lengths.ensures.len l t takes gate)

pub returns-clause-taken : goal.returns-clause-taken
returns-clause-taken g c = λ n start.
    let x = g.D.Disk.image c.args.disk.now in
    let o : Opening = c.args.self.now.opening in
    let same : c.self.inside.used ≡ o.used = ap (λ (v : IndexState). v.opening.used) c.self.view_is in
    let offset : ℕ = c.self.inside.used in
    let h : Lengths = c.in_ok-lengths.lengths in
    let l = c.in_ok-lengths.ensures.lengths in
    let finds : FindsDirectory (g.D.Disk.image c.read_lengths.new.disk) o h c.args.names.now c.read_found.new.names c.in_ok-found.found = c.in_ok-found.ensures.found in
    let t : IfSome x (λ image. finds.bytes ≡ take h.directory (drop (offset + 16) image)) = subst (λ n. IfSome x (λ image. finds.bytes ≡ take h.directory (drop (n + 16) image))) (sym same) (subst (λ y. IfSome y (λ image. finds.bytes ≡ take h.directory (drop (o.used + 16) image))) c.read_lengths.ensures.frame.same_image finds.there) in
    let takes = finds.taken in
    let gate : IfSome x (λ image. c.in_ok-gate.gate ≡ slice_index image (offset + 16 + h.directory + h.columns)) = subst (λ y. IfSome y (λ image. c.in_ok-gate.gate ≡ slice_index image (offset + 16 + h.directory + h.columns))) (c.read_found.ensures.frame.same_image ∙ c.read_lengths.ensures.frame.same_image) c.in_ok-gate.ensures.byte in
    let new : c.note.new.self.opening ≡ with_rows o c.in_ok-found.found.batch c.in_ok-found.found.rows.items (offset + 16 + h.directory) (offset + 16 + h.directory + h.columns + 1) = c.note.ensures ∙ (λ i. with_rows (c.reserve.ensures.same i) c.in_ok-found.found.batch (c.deref-2.ensures.value i) (offset + 16 + h.directory) (offset + 16 + h.directory + h.columns + 1)) in
    let suits : Suits (keys_next o c.in_ok-found.found.batch.events) c.in_ok-found.found.rows.items = subst (λ (k : List Key). Suits k c.in_ok-found.found.rows.items) takes.keys takes.suits in
    let bytes = bytes_with o c.in_ok-found.found.batch c.in_ok-found.found.rows.items (offset + 16 + h.directory) (offset + 16 + h.directory + h.columns + 1) suits in
    let sound : columns_in o.records + 18 ≤ o.used = subst (λ (v : IndexState). columns_in v.opening.records + 18 ≤ v.opening.used) c.self.view_is c.self.invariant.bytes in
    let long : 1 ≤ h.directory = omega (arith, takes.long, finds.len) in
    let all : opening_bytes c.note.new.self.opening ≡ opening_bytes o + 17 + h.directory = omega (arith, ap opening_bytes new, bytes, sound, takes.measured, same) in
    taken_next (opening_bytes o) (opening_bytes c.note.new.self.opening) h.directory n (g.D.Disk.taken c.args.disk.now) (g.D.Disk.taken c.read_lengths.new.disk) (g.D.Disk.taken c.read_found.new.disk) (g.D.Disk.taken c.read_byte.new.disk) long all start
    c.in_ok-lengths.ensures.taken c.in_ok-found.ensures.taken c.in_ok-gate.ensures.taken

pub returns-in_err-lengths-clause-bounded : goal.returns-in_err-lengths-clause-bounded
returns-in_err-lengths-clause-bounded g c =
    let o : Opening = c.args.self.now.opening in
    let offset : ℕ = c.self.inside.used in
    let len : ℕ = c.read_lengths.new.len in
    let start : ℕ = g.D.Disk.taken c.args.disk.now in
    let same : offset ≡ o.used = ap (λ (v : IndexState). v.opening.used) c.self.view_is in
    on_err_any c.from_residual.result (λ (t : ℕ) (s : start ≡ raised_by (opening_bytes o) t). lengths_most o offset len t start (g.D.Disk.taken c.read_lengths.new.disk) same (omega (arith, c.requires.within, c.read_lengths.ensures.grown)) c.in_err-lengths.ensures.bounded s)

pub returns-in_err-found-clause-bounded : goal.returns-in_err-found-clause-bounded
returns-in_err-found-clause-bounded g c =
    let o : Opening = c.args.self.now.opening in
    let offset : ℕ = c.self.inside.used in
    let len : ℕ = c.read_lengths.new.len in
    let start : ℕ = g.D.Disk.taken c.args.disk.now in
    let same : offset ≡ o.used = ap (λ (v : IndexState). v.opening.used) c.self.view_is in
    let h : Lengths = c.in_ok-lengths.lengths in
    let f = fit_facts offset len h c.in_ok-lengths.ensures.fit in
    on_err_any c.from_residual-in_err-found.result (λ (t : ℕ) (s : start ≡ raised_by (opening_bytes o) t). directory_most o offset h.directory h.columns len t start (g.D.Disk.taken c.read_lengths.new.disk) (g.D.Disk.taken c.read_found.new.disk) same f.0 c.in_ok-lengths.ensures.taken c.in_err-found.ensures.bounded s)

pub returns-in_err-gate-clause-bounded : goal.returns-in_err-gate-clause-bounded
returns-in_err-gate-clause-bounded g c =
    let o : Opening = c.args.self.now.opening in
    let offset : ℕ = c.self.inside.used in
    let len : ℕ = c.read_lengths.new.len in
    let start : ℕ = g.D.Disk.taken c.args.disk.now in
    let same : offset ≡ o.used = ap (λ (v : IndexState). v.opening.used) c.self.view_is in
    let h : Lengths = c.in_ok-lengths.lengths in
    let f = fit_facts offset len h c.in_ok-lengths.ensures.fit in
    on_err_any c.from_residual-in_err-gate.result (λ (t : ℕ) (s : start ≡ raised_by (opening_bytes o) t). gate_most o offset h.directory h.columns len t start (g.D.Disk.taken c.read_lengths.new.disk) (g.D.Disk.taken c.read_found.new.disk) (g.D.Disk.taken c.read_byte.new.disk) same f.0 c.in_ok-lengths.ensures.taken c.in_ok-found.ensures.taken c.in_err-gate.ensures.none_taken s)

pub returns-in_err-reserve-clause-bounded : goal.returns-in_err-reserve-clause-bounded
returns-in_err-reserve-clause-bounded g c =
    let o : Opening = c.args.self.now.opening in
    let offset : ℕ = c.self.inside.used in
    let len : ℕ = c.read_lengths.new.len in
    let start : ℕ = g.D.Disk.taken c.args.disk.now in
    let same : offset ≡ o.used = ap (λ (v : IndexState). v.opening.used) c.self.view_is in
    let h : Lengths = c.in_ok-lengths.lengths in
    let f = fit_facts offset len h c.in_ok-lengths.ensures.fit in
    on_err_any c.from_residual-in_err-reserve.result (λ (t : ℕ) (s : start ≡ raised_by (opening_bytes o) t). behind_most o offset h.directory h.columns len t start (g.D.Disk.taken c.read_lengths.new.disk) (g.D.Disk.taken c.read_found.new.disk) (g.D.Disk.taken c.read_byte.new.disk) same f.0 c.in_ok-lengths.ensures.taken c.in_ok-found.ensures.taken c.in_ok-gate.ensures.taken s)

pub overflow_add-columns_offset : goal.overflow_add-columns_offset
overflow_add-columns_offset g c =
    let f = fit_facts c.self.inside.used c.read_lengths.new.len c.in_ok-lengths.lengths c.in_ok-lengths.ensures.fit in
    omega (arith, f)

pub overflow_add-gate_offset : goal.overflow_add-gate_offset
overflow_add-gate_offset g c =
    let f = fit_facts c.self.inside.used c.read_lengths.new.len c.in_ok-lengths.lengths c.in_ok-lengths.ensures.fit in
    omega (arith, f)

pub note-requires-clause-behind : goal.note-requires-clause-behind
note-requires-clause-behind g c =
    let same : c.self.inside.used ≡ c.args.self.now.opening.used = ap (λ (v : IndexState). v.opening.used) c.self.view_is in
    omega (arith, same, ap (λ (o : Opening). o.used) c.reserve.ensures.same)

pub note-requires-clause-names : goal.note-requires-clause-names
note-requires-clause-names g c =
    let takes = c.in_ok-found.ensures.found.taken in
    omega (arith, ap (λ (o : Opening). name_total o.batches) c.reserve.ensures.same, c.requires.counted_names, takes.counted, takes.few)

pub note-requires-clause-used : goal.note-requires-clause-used
note-requires-clause-used g c =
    ap (λ n. c.self.inside.used + 16 + c.in_ok-lengths.lengths.directory + n + 1) (ap bytes_of_rows c.deref-2.ensures.value ∙ c.in_ok-found.ensures.found.taken.measured)

pub returns-clause-progress : goal.returns-clause-progress
returns-clause-progress g c =
    let same : c.self.inside.used ≡ c.args.self.now.opening.used = ap (λ (v : IndexState). v.opening.used) c.self.view_is in
    omega (arith, same, ap (λ (o : Opening). o.used) c.note.ensures)

pub returns-in_err-gate-clause-cause : goal.returns-in_err-gate-clause-cause
returns-in_err-gate-clause-cause g c =
    λ _. rose_after (g.D.Disk.faults c.args.disk.now) (g.D.Disk.faults c.read_lengths.new.disk) (g.D.Disk.faults c.read_found.new.disk) (g.D.Disk.faults c.read_byte.new.disk) c.read_lengths.ensures.frame.counted c.read_found.ensures.frame.counted c.in_err-gate.ensures.cause

pub returns-in_err-found-clause-frame : goal.returns-in_err-found-clause-frame
returns-in_err-found-clause-frame g c =
    reads_then c.read_lengths.ensures.frame c.read_found.ensures.frame

pub returns-in_err-gate-clause-frame : goal.returns-in_err-gate-clause-frame
returns-in_err-gate-clause-frame g c =
    reads_then (reads_then c.read_lengths.ensures.frame c.read_found.ensures.frame) c.read_byte.ensures.frame

pub returns-in_err-reserve-clause-frame : goal.returns-in_err-reserve-clause-frame
returns-in_err-reserve-clause-frame g c =
    reads_then (reads_then c.read_lengths.ensures.frame c.read_found.ensures.frame) c.read_byte.ensures.frame

pub returns-clause-frame : goal.returns-clause-frame
returns-clause-frame g c =
    reads_then (reads_then c.read_lengths.ensures.frame c.read_found.ensures.frame) c.read_byte.ensures.frame

pub returns-in_err-lengths-clause-stays : goal.returns-in_err-lengths-clause-stays
returns-in_err-lengths-clause-stays g c =
    let o : Opening = c.args.self.now.opening in
    let sound : columns_in o.records + 18 ≤ o.used = subst (λ (v : IndexState). columns_in v.opening.records + 18 ≤ v.opening.used) c.self.view_is c.self.invariant.bytes in
    on_err_any c.from_residual.result
    (stays_at_lengths (g.D.Disk.image c.args.disk.now) o c.args.names.now (g.D.Disk.taken c.args.disk.now) (g.D.Disk.taken c.read_lengths.new.disk) sound c.requires.so_far c.in_err-lengths.ensures.short)

pub returns-in_err-found-clause-stays : goal.returns-in_err-found-clause-stays
returns-in_err-found-clause-stays g c =
    let o : Opening = c.args.self.now.opening in
    let h : Lengths = c.in_ok-lengths.lengths in
    let same : c.self.inside.used ≡ o.used = ap (λ (v : IndexState). v.opening.used) c.self.view_is in
    let sound : columns_in o.records + 18 ≤ o.used = subst (λ (v : IndexState). columns_in v.opening.records + 18 ≤ v.opening.used) c.self.view_is c.self.invariant.bytes in
    on_err_any c.from_residual-in_err-found.result
    (stays_in_segment (g.D.Disk.image c.args.disk.now) o c.args.names.now c.self.inside.used h (g.D.Disk.taken c.args.disk.now) (g.D.Disk.taken c.read_found.new.disk) sound same c.requires.so_far c.in_ok-lengths.ensures.lengths
    (found_reads h.directory (g.D.Disk.taken c.args.disk.now) (g.D.Disk.taken c.read_lengths.new.disk) (g.D.Disk.taken c.read_found.new.disk) c.in_ok-lengths.ensures.taken c.in_err-found.ensures.bounded))

pub returns-in_err-gate-clause-stays : goal.returns-in_err-gate-clause-stays
returns-in_err-gate-clause-stays g c =
    let o : Opening = c.args.self.now.opening in
    let h : Lengths = c.in_ok-lengths.lengths in
    let same : c.self.inside.used ≡ o.used = ap (λ (v : IndexState). v.opening.used) c.self.view_is in
    let sound : columns_in o.records + 18 ≤ o.used = subst (λ (v : IndexState). columns_in v.opening.records + 18 ≤ v.opening.used) c.self.view_is c.self.invariant.bytes in
    on_err_any c.from_residual-in_err-gate.result
    (stays_in_segment (g.D.Disk.image c.args.disk.now) o c.args.names.now c.self.inside.used h (g.D.Disk.taken c.args.disk.now) (g.D.Disk.taken c.read_byte.new.disk) sound same c.requires.so_far c.in_ok-lengths.ensures.lengths
    (gate_reads h.directory (g.D.Disk.taken c.args.disk.now) (g.D.Disk.taken c.read_lengths.new.disk) (g.D.Disk.taken c.read_found.new.disk) (g.D.Disk.taken c.read_byte.new.disk) c.in_ok-lengths.ensures.taken c.in_ok-found.ensures.taken c.in_err-gate.ensures.none_taken))

pub returns-in_err-reserve-clause-stays : goal.returns-in_err-reserve-clause-stays
returns-in_err-reserve-clause-stays g c =
    let o : Opening = c.args.self.now.opening in
    let h : Lengths = c.in_ok-lengths.lengths in
    let same : c.self.inside.used ≡ o.used = ap (λ (v : IndexState). v.opening.used) c.self.view_is in
    let sound : columns_in o.records + 18 ≤ o.used = subst (λ (v : IndexState). columns_in v.opening.records + 18 ≤ v.opening.used) c.self.view_is c.self.invariant.bytes in
    on_err_any c.from_residual-in_err-reserve.result
    (stays_in_segment (g.D.Disk.image c.args.disk.now) o c.args.names.now c.self.inside.used h (g.D.Disk.taken c.args.disk.now) (g.D.Disk.taken c.read_byte.new.disk) sound same c.requires.so_far c.in_ok-lengths.ensures.lengths
    (behind_reads h.directory (g.D.Disk.taken c.args.disk.now) (g.D.Disk.taken c.read_lengths.new.disk) (g.D.Disk.taken c.read_found.new.disk) (g.D.Disk.taken c.read_byte.new.disk) c.in_ok-lengths.ensures.taken c.in_ok-found.ensures.taken c.in_ok-gate.ensures.taken))

-- ---- behind a marker

pub read_marker-requires-clause-narrow : goal.read_marker-requires-clause-narrow
read_marker-requires-clause-narrow g c = (marks_narrow c.args.self.now.opening c.in_ok-lengths.lengths (sym c.may_be_marked.ensures ∙ c.if-may_be_marked.true)).0

pub read_marker-requires-clause-there : goal.read_marker-requires-clause-there
read_marker-requires-clause-there g c =
    let h : Lengths = c.in_ok-lengths.lengths in
    let same : c.self.inside.used ≡ c.args.self.now.opening.used = ap (λ (v : IndexState). v.opening.used) c.self.view_is in
    let f = fit_facts c.self.inside.used c.read_lengths.new.len h c.in_ok-lengths.ensures.fit in
    let m = marks_narrow c.args.self.now.opening h (sym c.may_be_marked.ensures ∙ c.if-may_be_marked.true) in
    range_within _ _ 9 c.read_lengths.new.len (omega (arith, f, same, m)) (subst (λ x. IsLengthOf x c.read_lengths.new.len) (sym c.read_lengths.ensures.frame.same_image) c.read_lengths.ensures.len)

pub read_marker-requires-clause-within : goal.read_marker-requires-clause-within
read_marker-requires-clause-within g c =
    let h : Lengths = c.in_ok-lengths.lengths in
    let same : c.self.inside.used ≡ c.args.self.now.opening.used = ap (λ (v : IndexState). v.opening.used) c.self.view_is in
    let f = fit_facts c.self.inside.used c.read_lengths.new.len h c.in_ok-lengths.ensures.fit in
    let m = marks_narrow c.args.self.now.opening h (sym c.may_be_marked.ensures ∙ c.if-may_be_marked.true) in
    omega (arith, f, same, m)

pub returns-then-may_be_marked-clause-so_far : goal.returns-then-may_be_marked-clause-so_far
returns-then-may_be_marked-clause-so_far g c =
    let x = g.D.Disk.image c.args.disk.now in
    let o : Opening = c.args.self.now.opening in
    let h : Lengths = c.in_ok-lengths.lengths in
    let same : c.self.inside.used ≡ o.used = ap (λ (v : IndexState). v.opening.used) c.self.view_is in
    let told = c.read_lengths.ensures.frame.same_image in
    marked_so_far c.read_marker.result x o c.read_marker.new.self.opening c.args.names.now c.self.inside.used c.read_lengths.new.len h same (sym c.may_be_marked.ensures ∙ c.if-may_be_marked.true) c.in_ok-lengths.ensures.fit c.requires.so_far c.read_lengths.ensures.len c.in_ok-lengths.ensures.lengths
    c.read_marker.ensures.upgraded (subst (λ y. OnOk c.read_marker.result (IfSome y (λ image. eight_at image (o.used + 16) ≡ 0))) told c.read_marker.ensures.zero)
    (subst (λ y. IfOk c.read_marker.result (λ gate. IfSome y (λ image. gate ≡ slice_index image (o.used + 24)))) told c.read_marker.ensures.gate)

pub returns-then-may_be_marked-clause-within : goal.returns-then-may_be_marked-clause-within
returns-then-may_be_marked-clause-within g c =
    let h : Lengths = c.in_ok-lengths.lengths in
    let same : c.self.inside.used ≡ c.args.self.now.opening.used = ap (λ (v : IndexState). v.opening.used) c.self.view_is in
    let f = fit_facts c.self.inside.used c.read_lengths.new.len h c.in_ok-lengths.ensures.fit in
    let m = marks_narrow c.args.self.now.opening h (sym c.may_be_marked.ensures ∙ c.if-may_be_marked.true) in
    on_ok_weaker c.read_marker.result (λ upgraded. omega (arith, f, same, m, ap (λ (o : Opening). o.used) upgraded)) c.read_marker.ensures.upgraded

pub returns-then-may_be_marked-clause-progress : goal.returns-then-may_be_marked-clause-progress
returns-then-may_be_marked-clause-progress g c =
    on_ok_weaker c.read_marker.result (λ upgraded. omega (arith, ap (λ (o : Opening). o.used) upgraded)) c.read_marker.ensures.upgraded

pub returns-then-may_be_marked-clause-counted_names : goal.returns-then-may_be_marked-clause-counted_names
returns-then-may_be_marked-clause-counted_names g c =
    on_ok_weaker c.read_marker.result (λ upgraded. c.requires.counted_names ∙ ap (λ (o : Opening). name_total o.batches) (sym upgraded)) c.read_marker.ensures.upgraded

pub returns-then-may_be_marked-clause-taken : goal.returns-then-may_be_marked-clause-taken
returns-then-may_be_marked-clause-taken g c =
    let o : Opening = c.args.self.now.opening in
    let start : ℕ = g.D.Disk.taken c.args.disk.now in
    let sound : columns_in o.records + 18 ≤ o.used = subst (λ (v : IndexState). columns_in v.opening.records + 18 ≤ v.opening.used) c.self.view_is c.self.invariant.bytes in
    marked_taken c.read_marker.result o c.read_marker.new.self.opening start (g.D.Disk.taken c.read_lengths.new.disk) (g.D.Disk.taken c.read_marker.new.disk) sound c.in_ok-lengths.ensures.taken c.read_marker.ensures.upgraded c.read_marker.ensures.taken

pub returns-then-may_be_marked-clause-refused : goal.returns-then-may_be_marked-clause-refused
returns-then-may_be_marked-clause-refused g c =
    let x = g.D.Disk.image c.args.disk.now in
    let o : Opening = c.args.self.now.opening in
    let h : Lengths = c.in_ok-lengths.lengths in
    let same : c.self.inside.used ≡ o.used = ap (λ (v : IndexState). v.opening.used) c.self.view_is in
    let m = marks_narrow o h (sym c.may_be_marked.ensures ∙ c.if-may_be_marked.true) in
    let misses = subst (λ y. IfErr c.read_marker.result (λ fault. IfSome y (λ image. Misses o.used (eight_at image (o.used + 16) ≢ 0) fault))) c.read_lengths.ensures.frame.same_image c.read_marker.ensures.refused in
    IfErr-weaker c.read_marker.result (λ fault. IfSome x (λ image. Misses o.used (eight_at image (o.used + 16) ≢ 0) fault)) (λ fault. IfSome x (λ image. RefusesOpening fault (opening image)))
    (λ fault e. no_events x o c.args.names.now c.self.inside.used h fault same m.1 c.requires.so_far c.in_ok-lengths.ensures.lengths e) misses

pub returns-then-may_be_marked-clause-bounded : goal.returns-then-may_be_marked-clause-bounded
returns-then-may_be_marked-clause-bounded g c =
    let o : Opening = c.args.self.now.opening in
    let offset : ℕ = c.self.inside.used in
    let len : ℕ = c.read_lengths.new.len in
    let start : ℕ = g.D.Disk.taken c.args.disk.now in
    let same : offset ≡ o.used = ap (λ (v : IndexState). v.opening.used) c.self.view_is in
    let h : Lengths = c.in_ok-lengths.lengths in
    let f = fit_facts offset len h c.in_ok-lengths.ensures.fit in
    let m = marks_narrow o h (sym c.may_be_marked.ensures ∙ c.if-may_be_marked.true) in
    on_err_weaker c.read_marker.result
    (λ most t s. directory_most o offset h.directory h.columns len t start (g.D.Disk.taken c.read_lengths.new.disk) (g.D.Disk.taken c.read_marker.new.disk) same f.0 c.in_ok-lengths.ensures.taken (omega (arith, most, m)) s)
    c.read_marker.ensures.bounded

pub returns-then-may_be_marked-clause-stays : goal.returns-then-may_be_marked-clause-stays
returns-then-may_be_marked-clause-stays g c =
    let o : Opening = c.args.self.now.opening in
    let h : Lengths = c.in_ok-lengths.lengths in
    let same : c.self.inside.used ≡ o.used = ap (λ (v : IndexState). v.opening.used) c.self.view_is in
    let sound : columns_in o.records + 18 ≤ o.used = subst (λ (v : IndexState). columns_in v.opening.records + 18 ≤ v.opening.used) c.self.view_is c.self.invariant.bytes in
    let m = marks_narrow o h (sym c.may_be_marked.ensures ∙ c.if-may_be_marked.true) in
    on_err_weaker c.read_marker.result
    (λ most. stays_in_segment (g.D.Disk.image c.args.disk.now) o c.args.names.now c.self.inside.used h (g.D.Disk.taken c.args.disk.now) (g.D.Disk.taken c.read_marker.new.disk) sound same c.requires.so_far c.in_ok-lengths.ensures.lengths
    (found_reads h.directory (g.D.Disk.taken c.args.disk.now) (g.D.Disk.taken c.read_lengths.new.disk) (g.D.Disk.taken c.read_marker.new.disk) c.in_ok-lengths.ensures.taken (omega (arith, most, m))))
    c.read_marker.ensures.bounded

pub returns-then-may_be_marked-clause-frame : goal.returns-then-may_be_marked-clause-frame
returns-then-may_be_marked-clause-frame g c = reads_then c.read_lengths.ensures.frame c.read_marker.ensures.frame
