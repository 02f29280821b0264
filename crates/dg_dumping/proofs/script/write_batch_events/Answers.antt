use Rattle.std.proofs.Common.{◌≡◌, ℕ, ◌+◌, ◌-◌, ◌≤◌, List, ◌++◌, ap, ◌∙◌, drop, length, subst, sym, take, arith}
use Rattle.std.specs.Prelude.{Err, IfSome, Ok}
use Rattle.dg_disk.proofs.FrameLemmas.{reads_none, reads_then}
use Rattle.dg_dumping.specs.declared.status.DumpStatus.{DumpStatus}
use Rattle.dg_dumping.specs.Dumped.{GainsPart, Stops, events_at}
use Rattle.dg_dumping.specs.Endings.{of_record}
use Rattle.dg_dumping.specs.PutText.{HasPut, events_text}
use Rattle.dg_dumping.proofs.Batches.{batch_in, index_of, left_from, left_some, part_next}
use Rattle.dg_dumping.proofs.Ends.{gains_put, gains_record, stops_later, stops_put, stops_record}
use Rattle.dg_dumping.proofs.Pieces.{fails_next, lines_join, lines_some, put_first, put_left, put_next, put_stops}
use Rattle.dg_history.specs.History.{History, events_of}
use Rattle.dg_index.specs.OpenedIndex.{Opened, opening}
use Rattle.dg_records.specs.declared.fault.RecordFault.{RecordFault}
use Rattle.dg_spans.specs.Stretches.{AreEventsFrom, HasEvent, IsOutside, WhereStands, record_of}
use Rattle.dg_spans.proofs.Places.{placed_within}
use Rattle.dg_start.proofs.EventSourceOutcomes.{err_is}
use Rattle.dg_dumping.proofs.script.write_batch_events.Goals as goal

pub loop-at-init : goal.loop-at-init
loop-at-init g c =
    let names = c.args.names.now in
    let p = c.args.place in
    record {
      low = omega arith;
      high = omega arith;
      put = λ image is z h.
          put_left g.K.Sink c.args.sink.now c.args.sink.now _ c.args.text.now.items (events_text names (events_at z p)) _
          (ap (λ n. events_text names (take n (drop p.before (events_of z)))) (let e : p.batch.events ≡ p.before + p.batch.events - p.before = omega arith in e))
          (put_first g.K.Sink c.args.sink.now c.args.text.now.items (events_text names (events_at z p)));
      own = c.requires.own;
      counted = omega arith;
      disk = reads_none;
    }

pub overflow_add-end : goal.overflow_add-end
overflow_add-end g c = omega (arith, placed_within c.args.index.now.opening c.args.place c.requires.placed, c.facts.ensures.events)

pub overflow_add-at : goal.overflow_add-at
overflow_add-at g c = omega (arith, c.part-events.ensures.few, placed_within c.args.index.now.opening c.args.place c.requires.placed, c.facts.ensures.events)

pub reach-requires-clause-within : goal.reach-requires-clause-within
reach-requires-clause-within g c = record { behind = c.loop-at.invariant.low; within = c.loop-at-test.true }

pub reach-requires-clause-image : goal.reach-requires-clause-image
reach-requires-clause-image g c =
    let x : Opened = record { index = c.args.index.now.opening; names = c.args.names.now } in
    subst (λ told. IfSome told (λ image. opening image ≡ Ok x)) (sym c.loop-at.invariant.disk.same_image) c.requires.image

pub reach-requires-clause-own : goal.reach-requires-clause-own
reach-requires-clause-own g c image is = c.loop-at.invariant.own image (sym c.loop-at.invariant.disk.same_image ∙ is)

pub returns-in_err-reach-clause-own : goal.returns-in_err-reach-clause-own
returns-in_err-reach-clause-own g c image is = c.reach.ensures.own image (c.loop-at.invariant.disk.same_image ∙ is)

pub returns-in_err-reach-clause-part : goal.returns-in_err-reach-clause-part
returns-in_err-reach-clause-part g c =
    let names = c.args.names.now in
    let p = c.args.place in
    let x : Opened = record { index = c.args.index.now.opening; names = names } in
    let told = g.D.Disk.image c.args.disk.now in
    let end : ℕ = p.before + p.batch.events in
    let f : RecordFault = c.in_err-reach.field-0.0 in
    err_is c.from_residual.result (of_record f)
    (λ (s : DumpStatus). WhereStands told (λ z. GainsPart s (g.K.Sink.written c.args.sink.now) (c.args.text.now.items ++ events_text names (events_at z p)) (g.K.Sink.written c.loop-at.sink))) c.from_residual.ensures
    (λ image is z h.
    let some : 1 ≤ length (left_from z c.loop-at.at end) = left_some z c.loop-at.at end c.loop-at-test.true (batch_in z x p (index_of told x c.requires.image image is z h) c.requires.placed) in
    gains_record f (g.K.Sink.written c.args.sink.now) (g.K.Sink.written c.loop-at.sink) (c.args.text.now.items ++ events_text names (events_at z p))
    (c.in_err-reach.ensures.never image (c.loop-at.invariant.disk.same_image ∙ is) z h)
    (put_stops g.K.Sink c.args.sink.now c.loop-at.sink (c.args.text.now.items ++ events_text names (events_at z p)) c.loop-at.text.items (events_text names (left_from z c.loop-at.at end))
    (c.loop-at.invariant.put image is z h) (lines_some names (left_from z c.loop-at.at end) some)))

pub returns-in_err-reach-clause-stopped : goal.returns-in_err-reach-clause-stopped
returns-in_err-reach-clause-stopped g c =
    let o = c.args.index.now.opening in
    let x : Opened = record { index = o; names = c.args.names.now } in
    let f : RecordFault = c.in_err-reach.field-0.0 in
    err_is c.from_residual.result (of_record f) (λ (s : DumpStatus). Stops g.D.Disk g.K.Sink x s c.args.disk.now c.reach.new.disk c.args.sink.now c.loop-at.sink) c.from_residual.ensures
    (stops_later g.D.Disk g.K.Sink x (of_record f) c.args.disk.now c.loop-at.disk c.reach.new.disk c.args.sink.now c.loop-at.sink c.loop-at.sink
    c.loop-at.invariant.disk.same_image c.loop-at.invariant.disk.counted c.loop-at.invariant.counted
    (stops_record g.D.Disk g.K.Sink x f (record_of o c.args.place c.loop-at.at) c.loop-at.disk c.reach.new.disk c.loop-at.sink c.loop-at.sink (λ e. c.in_err-reach.ensures.cause (ap (λ (f : RecordFault). Err f) e)) c.in_err-reach.ensures.refused))

pub returns-in_err-reach-clause-disk : goal.returns-in_err-reach-clause-disk
returns-in_err-reach-clause-disk g c = reads_then c.loop-at.invariant.disk c.reach.ensures.disk

pub returns-in_err-write_events-clause-own : goal.returns-in_err-write_events-clause-own
returns-in_err-write_events-clause-own g c image is = c.reach.ensures.own image (c.loop-at.invariant.disk.same_image ∙ is)

pub returns-in_err-write_events-clause-part : goal.returns-in_err-write_events-clause-part
returns-in_err-write_events-clause-part g c =
    let names = c.args.names.now in
    let p = c.args.place in
    let told = g.D.Disk.image c.args.disk.now in
    let at : ℕ = c.loop-at.at in
    let end : ℕ = p.before + p.batch.events in
    let s : DumpStatus = c.in_err-write_events.field-0.0 in
    err_is c.from_residual-in_err-write_events.result s
    (λ (s : DumpStatus). WhereStands told (λ z. GainsPart s (g.K.Sink.written c.args.sink.now) (c.args.text.now.items ++ events_text names (events_at z p)) (g.K.Sink.written c.write_events.new.sink))) c.from_residual-in_err-write_events.ensures
    (λ image is z h.
    let part = c.part-events.result.now in
    let all = c.args.text.now.items ++ events_text names (events_at z p) in
    let later = left_from z (at + length part) end in
    let own : AreEventsFrom z at part = c.part-events.ensures.own z (c.reach.ensures.own image (c.loop-at.invariant.disk.same_image ∙ is) z h) in
    gains_put g.K.Sink c.args.sink.now c.write_events.new.sink all s
    (fails_next g.K.Sink c.args.sink.now c.loop-at.sink c.write_events.new.sink all c.loop-at.text.items (events_text names part) (events_text names later) s
    (put_left g.K.Sink c.args.sink.now c.loop-at.sink all c.loop-at.text.items (events_text names (left_from z at end)) (events_text names part ++ events_text names later)
    (ap (events_text names) (part_next z at end part own c.part-events.ensures.few) ∙ lines_join names part later) (c.loop-at.invariant.put image is z h))
    c.loop-at.invariant.counted c.in_err-write_events.ensures.failed))

pub returns-in_err-write_events-clause-stopped : goal.returns-in_err-write_events-clause-stopped
returns-in_err-write_events-clause-stopped g c =
    let x : Opened = record { index = c.args.index.now.opening; names = c.args.names.now } in
    let s : DumpStatus = c.in_err-write_events.field-0.0 in
    err_is c.from_residual-in_err-write_events.result s (λ (s : DumpStatus). Stops g.D.Disk g.K.Sink x s c.args.disk.now c.reach.new.disk c.args.sink.now c.write_events.new.sink) c.from_residual-in_err-write_events.ensures
    (stops_later g.D.Disk g.K.Sink x s c.args.disk.now c.loop-at.disk c.reach.new.disk c.args.sink.now c.loop-at.sink c.write_events.new.sink
    c.loop-at.invariant.disk.same_image c.loop-at.invariant.disk.counted c.loop-at.invariant.counted
    (stops_put g.D.Disk g.K.Sink x s c.loop-at.disk c.reach.new.disk c.loop-at.sink c.write_events.new.sink (c.loop-at.text.items ++ events_text c.args.names.now c.part-events.result.now) c.in_err-write_events.ensures.failed))

pub returns-in_err-write_events-clause-counted : goal.returns-in_err-write_events-clause-counted
returns-in_err-write_events-clause-counted g c = omega (arith, c.loop-at.invariant.counted, c.write_events.ensures.counted)

pub returns-in_err-write_events-clause-disk : goal.returns-in_err-write_events-clause-disk
returns-in_err-write_events-clause-disk g c = reads_then c.loop-at.invariant.disk c.reach.ensures.disk

pub loop-at-preserved : goal.loop-at-preserved
loop-at-preserved g c =
    let names = c.args.names.now in
    let p = c.args.place in
    let at : ℕ = c.loop-at.at in
    let end : ℕ = p.before + p.batch.events in
    let part = c.part-events.result.now in
    record {
      low = omega (arith, c.loop-at.invariant.low);
      high = c.part-events.ensures.few;
      put = λ image is z h.
          let all = c.args.text.now.items ++ events_text names (events_at z p) in
          let later = left_from z (at + length part) end in
          let own : AreEventsFrom z at part = c.part-events.ensures.own z (c.reach.ensures.own image (c.loop-at.invariant.disk.same_image ∙ is) z h) in
          put_next g.K.Sink c.args.sink.now c.loop-at.sink c.write_events.new.sink all c.loop-at.text.items (events_text names part) (events_text names later) c.write_events.new.text.items
          (put_left g.K.Sink c.args.sink.now c.loop-at.sink all c.loop-at.text.items (events_text names (left_from z at end)) (events_text names part ++ events_text names later)
          (ap (events_text names) (part_next z at end part own c.part-events.ensures.few) ∙ lines_join names part later) (c.loop-at.invariant.put image is z h))
          c.in_ok-write_events.ensures.put;
      own = λ image is. c.reach.ensures.own image (c.loop-at.invariant.disk.same_image ∙ is);
      counted = omega (arith, c.loop-at.invariant.counted, c.write_events.ensures.counted);
      disk = reads_then c.loop-at.invariant.disk c.reach.ensures.disk;
    }

pub returns-clause-put : goal.returns-clause-put
returns-clause-put g c image is z h =
    let names = c.args.names.now in
    let p = c.args.place in
    put_left g.K.Sink c.args.sink.now c.loop-at.sink _ c.loop-at.text.items (events_text names (left_from z c.loop-at.at (p.before + p.batch.events))) _
    (ap (λ n. events_text names (take n (drop c.loop-at.at (events_of z)))) (let e : p.before + p.batch.events - c.loop-at.at ≡ 0 = omega (arith, c.loop-at-test.false) in e))
    (c.loop-at.invariant.put image is z h)
