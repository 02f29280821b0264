use Rattle.std.proofs.Common.{◌≡◌, ℕ, ◌+◌, ◌-◌, ◌≤◌, ◌++◌, List, length, true, Some, Result, Ok, Err, inl, refl, sym, ap, subst, ◌∙◌, arith, length-append}
use Rattle.dg_disk.proofs.CrashTold.{told_starts, told_widens}
use Rattle.dg_history.specs.declared.limits.TheConstants.{EVENTS_MAX, FILE_BYTES_MAX}
use Rattle.dg_history.specs.declared.node.Key.{Key}
use Rattle.dg_history.specs.History.{are_parameters, is_wide}
use Rattle.dg_index.specs.declared.entry.Row.{Row}
use Rattle.dg_index.specs.FileOfHistory.{Segment, blobs, head_of, segment_bytes}
use Rattle.dg_index.specs.IndexGrowth.{index_with, needed_for}
use Rattle.dg_index.specs.OpenedIndex.{Opening, directory_of, earliest_in, event_total, first_in, last_list, may_be_listed, rows_in}
use Rattle.dg_segment.proofs.OpenedIndexLists.{listed_segment}
use Rattle.dg_index.proofs.OpenedIndexHistories.{large_parameters}
use Rattle.dg_catalogue.specs.Additions.{Suits}
use Rattle.dg_file.specs.declared.fault.CommitFault.{CommitFault}
use Rattle.dg_file.specs.declared.fault.CommitFault.TheVariants.{FileFull, Disk}
use Rattle.dg_file.specs.Growth.{Moved, Gated, GatedOrNot, JustGated}
use Rattle.dg_file.specs.Images.{BothTold, Fits, GainsBatchOrNot, GainsSegment}
use Rattle.dg_file.specs.Index.{IndexState}
use Rattle.dg_file.proofs.ImageSegments.{added_batch, added_or_not, added_segment, columns_end, index_is, needed_is, text_written, used_there}
use Rattle.dg_file.proofs.InvariantBatches.{follows_in}
use Rattle.dg_segment.proofs.OpenedIndexKeys.{suits_segment}
use Rattle.dg_file.proofs.TidyWrites.{segment_tidy}
use Rattle.dg_file.proofs.index.Index.add.Goals as goal

full_bytes : ℕ → Result (Unit {0}) CommitFault → ℕ
full_bytes n (Ok x) = n
full_bytes n (Err (FileFull m)) = m
full_bytes n (Err Disk) = n

pub returns-then-limit-needed-clause-full : goal.returns-then-limit-needed-clause-full
unfolding full_bytes
returns-then-limit-needed-clause-full g c = λ n e.
    let used : c.self.inside.used ≡ c.args.self.now.opening.used = ap (λ (v : IndexState). v.opening.used) c.self.view_is in
    let needed = needed_is c.self.inside.used c.size.result c.args.self.now.opening c.args.prepared.now.segment c.segment-segment.result.now c.is_wide.result used c.segment-segment.ensures c.is_wide.ensures c.size.ensures.size in
    let same : c.self.inside.used + c.size.result ≡ n = ap (full_bytes n) e in
    record { needed = sym same ∙ needed; over = omega (arith, same, c.if-limit-needed.true); index = refl; disk = refl }

pub append-requires-clause-fits : goal.append-requires-clause-fits
append-requires-clause-fits g c =
    let o : Opening = c.args.self.now.opening in
    let s : Segment = c.args.prepared.now.segment in
    let used : c.self.inside.used ≡ o.used = ap (λ (v : IndexState). v.opening.used) c.self.view_is in
    let needed = needed_is c.self.inside.used c.size.result o s c.segment-segment.result.now c.is_wide.result used c.segment-segment.ensures c.is_wide.ensures c.size.ensures.size in
    let head : c.head-head.result.now ≡ head_of (is_wide o.form) s = c.head-head.ensures ∙ ap (λ wide. head_of wide s) c.requires.room.form in
    let text = text_written (is_wide o.form) s c.segment-segment.result.now c.head-head.result.now head c.segment-segment.ensures in
    omega (arith, needed, used, ap length text, length-append c.head-head.result.now (blobs c.segment-segment.result.now), c.if-limit-needed.false, c.requires.limit)

pub append-requires-clause-offset : goal.append-requires-clause-offset
append-requires-clause-offset g c =
    used_there (g.D.Disk.image c.args.disk.now) c.args.self.now.opening c.args.prepared.now.segment c.self.inside.used (ap (λ (v : IndexState). v.opening.used) c.self.view_is) c.requires.image

pub returns-in_err-append-clause-part : goal.returns-in_err-append-clause-part
returns-in_err-append-clause-part g c = λ _.
    let x = g.D.Disk.image c.args.disk.now in
    let y = g.D.Disk.image c.append.new.disk in
    let used : c.self.inside.used ≡ c.args.self.now.opening.used = ap (λ (v : IndexState). v.opening.used) c.self.view_is in
    let needed = needed_is c.self.inside.used c.size.result c.args.self.now.opening c.args.prepared.now.segment c.segment-segment.result.now c.is_wide.result used c.segment-segment.ensures c.is_wide.ensures c.size.ensures.size in
    let within : needed_for c.args.self.now.opening c.args.prepared.now.segment ≤ FILE_BYTES_MAX = subst (λ n. n ≤ FILE_BYTES_MAX) needed (omega (arith, c.if-limit-needed.false, c.requires.limit)) in
    let head : c.head-head.result.now ≡ head_of (is_wide c.args.self.now.opening.form) c.args.prepared.now.segment = c.head-head.ensures ∙ ap (λ wide. head_of wide c.args.prepared.now.segment) c.requires.room.form in
    let text = text_written (is_wide c.args.self.now.opening.form) c.args.prepared.now.segment c.segment-segment.result.now c.head-head.result.now head c.segment-segment.ensures in
    record {
      part = added_or_not x y c.args.self.now.opening c.args.prepared.now.segment c.self.inside.used used within c.requires.image
          (subst (λ (l : List ℕ). Moved x y (GatedOrNot c.self.inside.used l)) text c.in_err-append.ensures.part);
      fits = subst (λ n. n ≤ c.args.limit) needed (omega (arith, c.if-limit-needed.false));
      cause = c.in_err-append.ensures.cause;
    }

pub note-requires-clause-rows : goal.note-requires-clause-rows
note-requires-clause-rows g c =
    let o : Opening = c.args.self.now.opening in
    let s : Segment = c.args.prepared.now.segment in
    let large = large_parameters o.params.l o.params.k (subst (λ (v : IndexState). are_parameters v.opening.params.l v.opening.params.k ≡ true) c.self.view_is c.self.invariant.parameters) in
    let few : event_total o.batches + s.events ≤ EVENTS_MAX = (follows_in (event_total o.batches) (earliest_in 0 o.batches) (directory_of s).batch c.requires.due.follows).all in
    subst (λ (r : List Row). Suits c.keys.result.now r) (sym c.rows.ensures) (subst (λ (k : List Key). Suits k (rows_in (directory_of s))) (sym (c.keys.ensures ∙ c.requires.room.keys)) (suits_segment o s large.0 few c.requires.due))

pub note-requires-clause-listed : goal.note-requires-clause-listed
note-requires-clause-listed g c =
    let o : Opening = c.args.self.now.opening in
    let s : Segment = c.args.prepared.now.segment in
    let batch : c.batch.result ≡ (directory_of s).batch = c.batch.ensures ∙ ap (λ (s : Segment). (directory_of s).batch) c.segment-segment.ensures in
    (λ i. may_be_listed (last_list (first_in (batch i).ends.first o.batches) o.records) (batch i).ends.last (c.rows.ensures i))
    ∙ listed_segment (last_list (first_in s.first o.batches) o.records) s.last s c.requires.due.listed

pub note-requires-clause-used : goal.note-requires-clause-used
note-requires-clause-used g c =
    let o : Opening = c.args.self.now.opening in
    let s : Segment = c.args.prepared.now.segment in
    let head : c.head-head.result.now ≡ head_of (is_wide o.form) s = c.head-head.ensures ∙ ap (λ wide. head_of wide s) c.requires.room.form in
    let end = columns_end (is_wide o.form) s c.head-head.result.now c.rows.result.now head c.rows.ensures in
    let size : c.size.result ≡ length (segment_bytes (is_wide o.form) s) + 1 = c.size.ensures.size ∙ (λ i. length (segment_bytes (c.is_wide.ensures i) (c.segment-segment.ensures i)) + 1) in
    omega (arith, end, size)

pub returns-clause-done : goal.returns-clause-done
returns-clause-done g c =
    let x = g.D.Disk.image c.args.disk.now in
    let y = g.D.Disk.image c.append.new.disk in
    let o : Opening = c.args.self.now.opening in
    let s : Segment = c.args.prepared.now.segment in
    let used : c.self.inside.used ≡ o.used = ap (λ (v : IndexState). v.opening.used) c.self.view_is in
    let needed = needed_is c.self.inside.used c.size.result o s c.segment-segment.result.now c.is_wide.result used c.segment-segment.ensures c.is_wide.ensures c.size.ensures.size in
    let within : needed_for o s ≤ FILE_BYTES_MAX = subst (λ n. n ≤ FILE_BYTES_MAX) needed (omega (arith, c.if-limit-needed.false, c.requires.limit)) in
    let head : c.head-head.result.now ≡ head_of (is_wide c.args.self.now.opening.form) c.args.prepared.now.segment = c.head-head.ensures ∙ ap (λ wide. head_of wide c.args.prepared.now.segment) c.requires.room.form in
    let text = text_written (is_wide c.args.self.now.opening.form) c.args.prepared.now.segment c.segment-segment.result.now c.head-head.result.now head c.segment-segment.ensures in
    let new : c.note.new.self.opening ≡ index_with o s = c.note.ensures ∙ index_is o s c.batch.result c.rows.result.now c.head-head.result.now c.self.inside.used (c.self.inside.used + c.size.result) (c.batch.ensures ∙ ap (λ (s : Segment). (directory_of s).batch) c.segment-segment.ensures) c.rows.ensures head used needed in
    let parameters = subst (λ (v : IndexState). are_parameters v.opening.params.l v.opening.params.k ≡ true) c.self.view_is c.self.invariant.parameters in
    let gated = subst (λ (l : List ℕ). Moved x y (Gated (c.self.inside.used - 1) 1 l)) text c.in_ok-append.ensures.written in
    let opened : BothTold x y (GainsSegment o s (index_with o s)) = added_segment x y o s c.self.inside.used used within c.requires.image parameters c.requires.due (omega (arith, used, c.self.invariant.bytes)) gated in
    let just = subst (λ (l : List ℕ). Moved x y (JustGated (c.self.inside.used - 1) 1 l)) text c.in_ok-append.ensures.exact in
    record {
      index = new;
      opened = subst (λ (n : Opening). BothTold x y (GainsSegment o s n)) (sym new) opened;
      exact = segment_tidy x y o (index_with o s) c.self.inside.used (segment_bytes (is_wide o.form) s) used (omega (arith, c.self.invariant.bytes)) (omega (arith, used)) s c.requires.image opened just;
      gained = added_batch x y o s c.self.inside.used used within c.requires.image gated;
      fits = subst (λ n. n ≤ c.args.limit) needed (omega (arith, c.if-limit-needed.false));
      settled = c.in_ok-append.ensures.settled;
    }

pub returns-then-limit-needed-clause-crash : goal.returns-then-limit-needed-clause-crash
returns-then-limit-needed-clause-crash g c =
    told_starts g.D.Disk.moment g.D.Disk.left_since g.D.Disk.may_leave g.met.D.Disk.only_now (g.D.Disk.image c.args.disk.now) c.args.disk.now (λ image. Fits image c.args.self.now.opening c.args.prepared.now.segment) (GainsBatchOrNot c.args.prepared.now.segment) (λ a fits z b h legal is. inl h) c.requires.image

pub returns-in_err-append-clause-crash : goal.returns-in_err-append-clause-crash
returns-in_err-append-clause-crash g c =
    let o : Opening = c.args.self.now.opening in
    let s : Segment = c.args.prepared.now.segment in
    let used : c.self.inside.used ≡ o.used = ap (λ (v : IndexState). v.opening.used) c.self.view_is in
    let needed = needed_is c.self.inside.used c.size.result o s c.segment-segment.result.now c.is_wide.result used c.segment-segment.ensures c.is_wide.ensures c.size.ensures.size in
    let within : needed_for o s ≤ FILE_BYTES_MAX = subst (λ n. n ≤ FILE_BYTES_MAX) needed (omega (arith, c.if-limit-needed.false, c.requires.limit)) in
    let head : c.head-head.result.now ≡ head_of (is_wide c.args.self.now.opening.form) c.args.prepared.now.segment = c.head-head.ensures ∙ ap (λ wide. head_of wide c.args.prepared.now.segment) c.requires.room.form in
    let text = text_written (is_wide c.args.self.now.opening.form) c.args.prepared.now.segment c.segment-segment.result.now c.head-head.result.now head c.segment-segment.ensures in
    told_widens g.D.Disk.moment g.D.Disk.left_since g.D.Disk.may_leave (g.D.Disk.image c.args.disk.now) c.args.disk.now c.append.new.disk (λ image. Fits image o s) (GatedOrNot c.self.inside.used (c.head-head.result.now ++ blobs c.segment-segment.result.now)) (GainsBatchOrNot s)
    (λ a e fits gate. added_or_not (Some a) (Some e) o s c.self.inside.used used within fits (subst (λ (l : List ℕ). GatedOrNot c.self.inside.used l a e) text gate))
    c.requires.image c.append.ensures.crash

pub returns-clause-crash : goal.returns-clause-crash
returns-clause-crash g c =
    let o : Opening = c.args.self.now.opening in
    let s : Segment = c.args.prepared.now.segment in
    let used : c.self.inside.used ≡ o.used = ap (λ (v : IndexState). v.opening.used) c.self.view_is in
    let needed = needed_is c.self.inside.used c.size.result o s c.segment-segment.result.now c.is_wide.result used c.segment-segment.ensures c.is_wide.ensures c.size.ensures.size in
    let within : needed_for o s ≤ FILE_BYTES_MAX = subst (λ n. n ≤ FILE_BYTES_MAX) needed (omega (arith, c.if-limit-needed.false, c.requires.limit)) in
    let head : c.head-head.result.now ≡ head_of (is_wide c.args.self.now.opening.form) c.args.prepared.now.segment = c.head-head.ensures ∙ ap (λ wide. head_of wide c.args.prepared.now.segment) c.requires.room.form in
    let text = text_written (is_wide c.args.self.now.opening.form) c.args.prepared.now.segment c.segment-segment.result.now c.head-head.result.now head c.segment-segment.ensures in
    told_widens g.D.Disk.moment g.D.Disk.left_since g.D.Disk.may_leave (g.D.Disk.image c.args.disk.now) c.args.disk.now c.append.new.disk (λ image. Fits image o s) (GatedOrNot c.self.inside.used (c.head-head.result.now ++ blobs c.segment-segment.result.now)) (GainsBatchOrNot s)
    (λ a e fits gate. added_or_not (Some a) (Some e) o s c.self.inside.used used within fits (subst (λ (l : List ℕ). GatedOrNot c.self.inside.used l a e) text gate))
    c.requires.image c.append.ensures.crash
