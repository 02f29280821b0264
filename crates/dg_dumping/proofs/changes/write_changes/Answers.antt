use Rattle.std.proofs.Common.{◌≡◌, ◌⊎◌, inr, ℕ, ◌+◌, ◌-◌, ◌<◌, ◌≤◌, Some, [], ◌∷◌, ◌++◌, ap, ◌∙◌, drop, length, min, refl, subst, sym, arith}
use Rattle.std.specs.Prelude.{Err, IfSome, Ok, slice_get}
use Rattle.std.proofs.lemmas.List.{drop_all}
use Rattle.std.proofs.lemmas.List.Sums.{sum_by-cons}
use Rattle.dg_disk.proofs.FrameLemmas.{reads_none, reads_then}
use Rattle.dg_dumping.specs.declared.status.DumpStatus.{DumpStatus}
use Rattle.dg_dumping.specs.Dumped.{GainsSpan, Stops}
use Rattle.dg_dumping.specs.Endings.{of_record}
use Rattle.dg_dumping.specs.PutText.{HasPut, events_text}
use Rattle.dg_dumping.specs.SpanText.{events_within}
use Rattle.dg_dumping.proofs.Batches.{IsIndexOf, index_of, left_from}
use Rattle.dg_dumping.proofs.Ends.{put_short, span_put, span_record, stops_later, stops_record}
use Rattle.dg_dumping.proofs.Pieces.{fails_next, held_on, put_done, put_first, put_left, put_next}
use Rattle.dg_dumping.proofs.Spans.{none_left_within, part_within}
use Rattle.dg_history.specs.History.{History, events_of}
use Rattle.dg_index.specs.declared.entry.BatchEntry.{BatchEntry}
use Rattle.dg_index.specs.OpenedIndex.{Opened, Opening, event_total, opening}
use Rattle.dg_records.specs.declared.fault.RecordFault.{RecordFault}
use Rattle.dg_spans.specs.declared.place.BatchPlace.{BatchPlace}
use Rattle.dg_spans.specs.Stretches.{AreEventsFrom, WhereStands, record_of}
use Rattle.dg_start.proofs.EventSourceOutcomes.{err_is}
use Rattle.dg_start.proofs.EventSourceSources.{batch_there, batch_within, from_here, none_left}
use Rattle.dg_dumping.proofs.changes.write_changes.Goals as goal

pub loop-batch-init : goal.loop-batch-init
loop-batch-init g c =
    let names = c.args.names.now in
    let span = c.args.span in
    let x : Opened = record { index = c.args.index.now.opening; names = names } in
    let told = g.D.Disk.image c.args.disk.now in
    let range = c.events_to_read-range.result in
    record {
      events = omega arith;
      low = omega arith;
      put = λ image is z h.
          let due = events_text names (events_within span (events_of z)) in
          let own : IsIndexOf z x = index_of told x c.requires.image image is z h in
          put_left g.K.Sink c.args.sink.now c.args.sink.now (c.args.text.now.items ++ due) c.args.text.now.items due (events_text names (events_within span (left_from z range.start range.stop)))
          (ap (events_text names) (c.events_to_read-range.ensures.among z h.legal (ap (λ (y : Opened). y.index) own.is)))
          (put_first g.K.Sink c.args.sink.now c.args.text.now.items due);
      back = inr refl;
      own = λ image is z h. subst (λ events. AreEventsFrom z c.none-held.result.start events) (sym c.none-held.ensures.none) refl;
      counted = omega arith;
      disk = reads_none;
    }

pub overflow_add-before : goal.overflow_add-before
overflow_add-before g c =
    let o : Opening = c.args.index.now.opening in
    let there : slice_get o.batches c.loop-batch.number ≡ Some c.in-Some.batch = sym c.batch.ensures ∙ c.in-Some.is in
    omega (arith, batch_within o c.loop-batch.number c.loop-batch.before c.in-Some.batch there c.loop-batch.invariant.events, c.facts.ensures.events)

pub overflow_add-before-else-at-end : goal.overflow_add-before-else-at-end
overflow_add-before-else-at-end g c =
    let o : Opening = c.args.index.now.opening in
    let there : slice_get o.batches c.loop-batch.number ≡ Some c.in-Some.batch = sym c.batch.ensures ∙ c.in-Some.is in
    omega (arith, batch_within o c.loop-batch.number c.loop-batch.before c.in-Some.batch there c.loop-batch.invariant.events, c.facts.ensures.events)

pub overflow_add-number : goal.overflow_add-number
overflow_add-number g c =
    let o : Opening = c.args.index.now.opening in
    let there : slice_get o.batches c.loop-batch.number ≡ Some c.in-Some.batch = sym c.batch.ensures ∙ c.in-Some.is in
    omega (arith, batch_there o.batches c.loop-batch.number c.in-Some.batch there, c.facts.ensures.few, c.facts.ensures.events)

pub loop-batch-smaller : goal.loop-batch-smaller
loop-batch-smaller g c =
    let o : Opening = c.args.index.now.opening in
    let n : ℕ = c.loop-batch.number in
    let left : ℕ = c.events_to_read-range.result.stop - c.loop-batch.at in
    let there : slice_get o.batches n ≡ Some c.in-Some.batch = sym c.batch.ensures ∙ c.in-Some.is in
    let fewer : length o.batches - (n + 1) + left < length o.batches - n + left = omega (arith, batch_there o.batches n c.in-Some.batch there) in
    fewer

pub reach-requires-clause-own : goal.reach-requires-clause-own
reach-requires-clause-own g c image is = c.loop-batch.invariant.own image (sym c.loop-batch.invariant.disk.same_image ∙ is)

pub returns-in_err-reach-clause-part : goal.returns-in_err-reach-clause-part
returns-in_err-reach-clause-part g c =
    let names = c.args.names.now in
    let span = c.args.span in
    let f : RecordFault = c.in_err-reach.field-0.0 in
    err_is c.from_residual.result (of_record f)
    (λ (s : DumpStatus). WhereStands (g.D.Disk.image c.args.disk.now)
    (λ z. GainsSpan s (g.K.Sink.written c.args.sink.now) (c.args.text.now.items ++ events_text names (events_within span (events_of z))) (g.K.Sink.written c.loop-batch.sink))) c.from_residual.ensures
    (λ image is z h.
    let all = c.args.text.now.items ++ events_text names (events_within span (events_of z)) in
    span_record f (g.K.Sink.written c.args.sink.now) (g.K.Sink.written c.loop-batch.sink) all (c.in_err-reach.ensures.never image (c.loop-batch.invariant.disk.same_image ∙ is) z h)
    (put_short g.K.Sink c.args.sink.now c.loop-batch.sink all c.loop-batch.text.items _ (c.loop-batch.invariant.put image is z h) c.loop-batch.invariant.back))

pub returns-in_err-reach-clause-stopped : goal.returns-in_err-reach-clause-stopped
returns-in_err-reach-clause-stopped g c =
    let o = c.args.index.now.opening in
    let x : Opened = record { index = o; names = c.args.names.now } in
    let p : BatchPlace = record { number = c.loop-batch.number; before = c.loop-batch.before; batch = c.in-Some.batch } in
    let f : RecordFault = c.in_err-reach.field-0.0 in
    err_is c.from_residual.result (of_record f) (λ (s : DumpStatus). Stops g.D.Disk g.K.Sink x s c.args.disk.now c.reach.new.disk c.args.sink.now c.loop-batch.sink) c.from_residual.ensures
    (stops_later g.D.Disk g.K.Sink x (of_record f) c.args.disk.now c.loop-batch.disk c.reach.new.disk c.args.sink.now c.loop-batch.sink c.loop-batch.sink
    c.loop-batch.invariant.disk.same_image c.loop-batch.invariant.disk.counted c.loop-batch.invariant.counted
    (stops_record g.D.Disk g.K.Sink x f (record_of o p c.loop-batch.at) c.loop-batch.disk c.reach.new.disk c.loop-batch.sink c.loop-batch.sink (λ e. c.in_err-reach.ensures.cause (ap (λ (f : RecordFault). Err f) e)) c.in_err-reach.ensures.refused))

pub returns-in_err-write_events_within-clause-part : goal.returns-in_err-write_events_within-clause-part
returns-in_err-write_events_within-clause-part g c =
    let names = c.args.names.now in
    let span = c.args.span in
    let at : ℕ = c.loop-batch.at in
    let stop : ℕ = c.events_to_read-range.result.stop in
    let part = c.part-events.result.now in
    let s : DumpStatus = c.in_err-write_events_within.field-0.0 in
    err_is c.from_residual-in_err-write_events_within.result s
    (λ (s : DumpStatus). WhereStands (g.D.Disk.image c.args.disk.now)
    (λ z. GainsSpan s (g.K.Sink.written c.args.sink.now) (c.args.text.now.items ++ events_text names (events_within span (events_of z))) (g.K.Sink.written c.write_events_within.new.sink))) c.from_residual-in_err-write_events_within.ensures
    (λ image is z h.
    let all = c.args.text.now.items ++ events_text names (events_within span (events_of z)) in
    let piece = events_text names (events_within span part) in
    let later = events_text names (events_within span (left_from z (at + length part) stop)) in
    let own : AreEventsFrom z at part = c.part-events.ensures.own z (c.reach.ensures.own image (c.loop-batch.invariant.disk.same_image ∙ is) z h) in
    span_put g.K.Sink c.args.sink.now c.write_events_within.new.sink all s
    (fails_next g.K.Sink c.args.sink.now c.loop-batch.sink c.write_events_within.new.sink all c.loop-batch.text.items piece later s
    (put_left g.K.Sink c.args.sink.now c.loop-batch.sink all c.loop-batch.text.items _ (piece ++ later)
    (part_within names span z at stop part own (omega (arith, c.part-events.ensures.few, c.min-end.ensures))) (c.loop-batch.invariant.put image is z h))
    c.loop-batch.invariant.counted c.in_err-write_events_within.ensures.failed))

pub loop-batch-preserved-then-at-end : goal.loop-batch-preserved-then-at-end
loop-batch-preserved-then-at-end g c =
    let names = c.args.names.now in
    let span = c.args.span in
    let at : ℕ = c.loop-batch.at in
    let stop : ℕ = c.events_to_read-range.result.stop in
    let part = c.part-events.result.now in
    record {
      events = c.loop-batch.invariant.events;
      low = omega (arith, c.loop-batch.invariant.low);
      put = λ image is z h.
          let all = c.args.text.now.items ++ events_text names (events_within span (events_of z)) in
          let piece = events_text names (events_within span part) in
          let later = events_text names (events_within span (left_from z (at + length part) stop)) in
          let own : AreEventsFrom z at part = c.part-events.ensures.own z (c.reach.ensures.own image (c.loop-batch.invariant.disk.same_image ∙ is) z h) in
          put_next g.K.Sink c.args.sink.now c.loop-batch.sink c.write_events_within.new.sink all c.loop-batch.text.items piece later c.write_events_within.new.text.items
          (put_left g.K.Sink c.args.sink.now c.loop-batch.sink all c.loop-batch.text.items _ (piece ++ later)
          (part_within names span z at stop part own (omega (arith, c.part-events.ensures.few, c.min-end.ensures))) (c.loop-batch.invariant.put image is z h))
          c.in_ok-write_events_within.ensures.put;
      back = held_on c.args.sink.now c.loop-batch.sink c.write_events_within.new.sink c.loop-batch.text.items c.write_events_within.new.text.items c.loop-batch.invariant.back c.in_ok-write_events_within.ensures.held;
      own = λ image is. c.reach.ensures.own image (c.loop-batch.invariant.disk.same_image ∙ is);
      counted = omega (arith, c.loop-batch.invariant.counted, c.write_events_within.ensures.counted);
      disk = reads_then c.loop-batch.invariant.disk c.reach.ensures.disk;
    }

pub loop-batch-preserved : goal.loop-batch-preserved
loop-batch-preserved g c =
    let o : Opening = c.args.index.now.opening in
    let n : ℕ = c.loop-batch.number in
    let there : slice_get o.batches n ≡ Some c.in-Some.batch = sym c.batch.ensures ∙ c.in-Some.is in
    record {
      events =
          omega (
            arith,
            c.loop-batch.invariant.events,
            ap event_total (from_here o.batches n c.in-Some.batch there),
            sum_by-cons (λ (b : BatchEntry). b.events) c.in-Some.batch (drop (n + 1) o.batches),
          );
      low = omega (arith, c.if-at-end.false, c.min-end.ensures);
      put = c.loop-batch.invariant.put;
      back = c.loop-batch.invariant.back;
      own = c.loop-batch.invariant.own;
      counted = c.loop-batch.invariant.counted;
      disk = c.loop-batch.invariant.disk;
    }

pub returns-clause-put : goal.returns-clause-put
returns-clause-put g c image is z h =
    let names = c.args.names.now in
    let span = c.args.span in
    let o : Opening = c.args.index.now.opening in
    let x : Opened = record { index = o; names = names } in
    let own : IsIndexOf z x = index_of (g.D.Disk.image c.args.disk.now) x c.requires.image image is z h in
    let none : event_total (drop c.loop-batch.number o.batches) ≡ 0 = ap event_total (drop_all c.loop-batch.number o.batches (none_left o.batches c.loop-batch.number (sym c.batch.ensures ∙ c.in_default.is))) in
    put_done g.K.Sink c.args.sink.now c.loop-batch.sink (c.args.text.now.items ++ events_text names (events_within span (events_of z))) c.loop-batch.text.items _
    (none_left_within names span z c.loop-batch.at c.events_to_read-range.result.stop (event_total o.batches) own.total (omega (arith, none, c.loop-batch.invariant.low, c.loop-batch.invariant.events)))
    (c.loop-batch.invariant.put image is z h)
