use Rattle.std.proofs.Common.{◌≡◌, ℕ, ◌+◌, ◌-◌, ◌<◌, ◌≤◌, Some, [], ◌∷◌, ◌++◌, ap, ◌∙◌, drop, length, map, refl, subst, sym, arith}
use Rattle.std.specs.Prelude.{IfSome, Ok, slice_get}
use Rattle.std.proofs.lemmas.List.{drop_all, length-map}
use Rattle.std.proofs.lemmas.List.Sums.{sum_by-cons}
use Rattle.dg_disk.proofs.FrameLemmas.{reads_none, reads_then}
use Rattle.dg_dump.specs.ScriptOfHistory.{batch_command, batches_lines, text_of_lines}
use Rattle.dg_dumping.specs.declared.status.DumpStatus.{DumpStatus}
use Rattle.dg_dumping.specs.Dumped.{GainsPart, Stops, batch_text, verb_at}
use Rattle.dg_dumping.specs.PutText.{HasPut, events_text}
use Rattle.dg_dumping.proofs.Batches.{batch_next, batch_of, index_of, lines_from, no_batch}
use Rattle.dg_dumping.proofs.Ends.{gains_behind, stops_later}
use Rattle.dg_dumping.proofs.Pieces.{put_fails, put_first, put_left, put_next}
use Rattle.dg_history.specs.History.{History}
use Rattle.dg_index.specs.declared.entry.BatchEntry.{BatchEntry}
use Rattle.dg_index.specs.OpenedIndex.{Opened, Opening, event_total, opening}
use Rattle.dg_spans.specs.declared.place.BatchPlace.{BatchPlace}
use Rattle.dg_spans.specs.Stretches.{AreEventsFrom, IsPlaced, WhereStands}
use Rattle.dg_start.proofs.EventSourceOutcomes.{err_is, said_before}
use Rattle.dg_start.proofs.EventSourceSources.{batch_there, batch_within, from_here, none_left}
use Rattle.dg_dumping.proofs.script.write_batches.Goals as goal

pub loop-batch-init : goal.loop-batch-init
loop-batch-init g c = record {
  events = omega arith;
  put = λ image is z h. put_first g.K.Sink c.args.sink.now c.args.text.now.items (text_of_lines (batches_lines c.args.names.now z.batches));
  own = λ image is z h. subst (λ events. AreEventsFrom z c.none-held.result.start events) (sym c.none-held.ensures.none) refl;
  counted = omega arith;
  disk = reads_none;
}

pub write_batch-requires-clause-placed : goal.write_batch-requires-clause-placed
write_batch-requires-clause-placed g c = record { there = sym c.batch.ensures ∙ c.in-Some.is; counted = c.loop-batch.invariant.events }

pub write_batch-requires-clause-image : goal.write_batch-requires-clause-image
write_batch-requires-clause-image g c =
    let x : Opened = record { index = c.args.index.now.opening; names = c.args.names.now } in
    subst (λ told. IfSome told (λ image. opening image ≡ Ok x)) (sym c.loop-batch.invariant.disk.same_image) c.requires.image

pub write_batch-requires-clause-own : goal.write_batch-requires-clause-own
write_batch-requires-clause-own g c image is = c.loop-batch.invariant.own image (sym c.loop-batch.invariant.disk.same_image ∙ is)

pub overflow_add-number : goal.overflow_add-number
overflow_add-number g c =
    let o : Opening = c.args.index.now.opening in
    let there : slice_get o.batches c.loop-batch.number ≡ Some c.in-Some.batch = sym c.batch.ensures ∙ c.in-Some.is in
    let lt = batch_there o.batches c.loop-batch.number c.in-Some.batch there in
    omega (arith, lt, c.facts.ensures.few, c.facts.ensures.events)

pub overflow_add-before : goal.overflow_add-before
overflow_add-before g c =
    let o : Opening = c.args.index.now.opening in
    let there : slice_get o.batches c.loop-batch.number ≡ Some c.in-Some.batch = sym c.batch.ensures ∙ c.in-Some.is in
    omega (arith, batch_within o c.loop-batch.number c.loop-batch.before c.in-Some.batch there c.loop-batch.invariant.events, c.facts.ensures.events)

pub loop-batch-smaller : goal.loop-batch-smaller
loop-batch-smaller g c =
    let o : Opening = c.args.index.now.opening in
    let there : slice_get o.batches c.loop-batch.number ≡ Some c.in-Some.batch = sym c.batch.ensures ∙ c.in-Some.is in
    let lt = batch_there o.batches c.loop-batch.number c.in-Some.batch there in
    let fewer : length o.batches - (c.loop-batch.number + 1) < length o.batches - c.loop-batch.number = omega (arith, lt) in
    fewer

pub returns-in_err-write_batch-clause-part : goal.returns-in_err-write_batch-clause-part
returns-in_err-write_batch-clause-part g c =
    let names = c.args.names.now in
    let x : Opened = record { index = c.args.index.now.opening; names = names } in
    let told = g.D.Disk.image c.args.disk.now in
    let n : ℕ = c.loop-batch.number in
    let p : BatchPlace = record { number = n; before = c.loop-batch.before; batch = c.in-Some.batch } in
    let placed : IsPlaced x.index p = record { there = sym c.batch.ensures ∙ c.in-Some.is; counted = c.loop-batch.invariant.events } in
    let s : DumpStatus = c.in_err-write_batch.field-0.0 in
    err_is c.from_residual.result s
    (λ (s : DumpStatus). WhereStands told (λ z. GainsPart s (g.K.Sink.written c.args.sink.now) (c.args.text.now.items ++ text_of_lines (batches_lines names z.batches)) (g.K.Sink.written c.write_batch.new.sink))) c.from_residual.ensures
    (λ image is z h.
    let all = c.args.text.now.items ++ text_of_lines (batches_lines names z.batches) in
    let later = text_of_lines (lines_from names (n + 1) (drop (n + 1) z.batches)) in
    gains_behind s (g.K.Sink.written c.args.sink.now) (g.K.Sink.written c.loop-batch.sink) (g.K.Sink.written c.write_batch.new.sink) all (c.loop-batch.text.items ++ batch_text z names p)
    (put_fails g.K.Sink c.args.sink.now c.loop-batch.sink c.write_batch.new.sink all c.loop-batch.text.items (batch_text z names p) later
    (put_left g.K.Sink c.args.sink.now c.loop-batch.sink all c.loop-batch.text.items _ (batch_text z names p ++ later)
    (batch_next z names p (batch_of z x p (index_of told x c.requires.image image is z h) placed)) (c.loop-batch.invariant.put image is z h)))
    (c.in_err-write_batch.ensures.part image (c.loop-batch.invariant.disk.same_image ∙ is) z h))

pub returns-in_err-write_batch-clause-stopped : goal.returns-in_err-write_batch-clause-stopped
returns-in_err-write_batch-clause-stopped g c =
    let x : Opened = record { index = c.args.index.now.opening; names = c.args.names.now } in
    let s : DumpStatus = c.in_err-write_batch.field-0.0 in
    err_is c.from_residual.result s (λ (s : DumpStatus). Stops g.D.Disk g.K.Sink x s c.args.disk.now c.write_batch.new.disk c.args.sink.now c.write_batch.new.sink) c.from_residual.ensures
    (stops_later g.D.Disk g.K.Sink x s c.args.disk.now c.loop-batch.disk c.write_batch.new.disk c.args.sink.now c.loop-batch.sink c.write_batch.new.sink
    c.loop-batch.invariant.disk.same_image c.loop-batch.invariant.disk.counted c.loop-batch.invariant.counted c.in_err-write_batch.ensures.stopped)

pub returns-in_err-write_batch-clause-counted : goal.returns-in_err-write_batch-clause-counted
returns-in_err-write_batch-clause-counted g c = omega (arith, c.loop-batch.invariant.counted, c.write_batch.ensures.counted)

pub returns-in_err-write_batch-clause-disk : goal.returns-in_err-write_batch-clause-disk
returns-in_err-write_batch-clause-disk g c = reads_then c.loop-batch.invariant.disk c.write_batch.ensures.disk

pub loop-batch-preserved : goal.loop-batch-preserved
loop-batch-preserved g c =
    let names = c.args.names.now in
    let x : Opened = record { index = c.args.index.now.opening; names = names } in
    let told = g.D.Disk.image c.args.disk.now in
    let n : ℕ = c.loop-batch.number in
    let p : BatchPlace = record { number = n; before = c.loop-batch.before; batch = c.in-Some.batch } in
    let placed : IsPlaced x.index p = record { there = sym c.batch.ensures ∙ c.in-Some.is; counted = c.loop-batch.invariant.events } in
    record {
      events =
          omega (
            arith,
            c.loop-batch.invariant.events,
            ap event_total (from_here x.index.batches n c.in-Some.batch placed.there),
            sum_by-cons (λ (b : BatchEntry). b.events) c.in-Some.batch (drop (n + 1) x.index.batches),
          );
      put = λ image is z h.
          let all = c.args.text.now.items ++ text_of_lines (batches_lines names z.batches) in
          let later = text_of_lines (lines_from names (n + 1) (drop (n + 1) z.batches)) in
          put_next g.K.Sink c.args.sink.now c.loop-batch.sink c.write_batch.new.sink all c.loop-batch.text.items (batch_text z names p) later c.write_batch.new.text.items
          (put_left g.K.Sink c.args.sink.now c.loop-batch.sink all c.loop-batch.text.items _ (batch_text z names p ++ later)
          (batch_next z names p (batch_of z x p (index_of told x c.requires.image image is z h) placed)) (c.loop-batch.invariant.put image is z h))
          (c.in_ok-write_batch.ensures.put image (c.loop-batch.invariant.disk.same_image ∙ is) z h);
      own = λ image is. c.write_batch.ensures.own image (c.loop-batch.invariant.disk.same_image ∙ is);
      counted = omega (arith, c.loop-batch.invariant.counted, c.write_batch.ensures.counted);
      disk = reads_then c.loop-batch.invariant.disk c.write_batch.ensures.disk;
    }

pub returns-clause-put : goal.returns-clause-put
returns-clause-put g c image is z h =
    let names = c.args.names.now in
    let x : Opened = record { index = c.args.index.now.opening; names = names } in
    let told = g.D.Disk.image c.args.disk.now in
    put_left g.K.Sink c.args.sink.now c.loop-batch.sink _ c.loop-batch.text.items _ _
    (no_batch z names x c.loop-batch.number (index_of told x c.requires.image image is z h) (none_left x.index.batches c.loop-batch.number (sym c.batch.ensures ∙ c.in_default.is)))
    (c.loop-batch.invariant.put image is z h)
