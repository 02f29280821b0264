use Rattle.std.proofs.Common.{◌+◌, [], ◌∷◌, ◌++◌, drop, get_or, arith}
use Rattle.dg_graph.specs.declared.event.Body.TheVariants as body
use Rattle.dg_graph.specs.declared.event.Event.{Event}
use Rattle.dg_dumping.specs.PutText.{PutFails, events_text}
use Rattle.dg_dumping.specs.declared.status.DumpStatus.{DumpStatus}
use Rattle.dg_dumping.proofs.Pieces.{fails_next, next_line, no_line, put_done, put_first, put_left, put_next}
use Rattle.dg_start.proofs.EventSourceOutcomes.{err_is}
use Rattle.dg_dumping.proofs.text.write_events.Goals as goal

-- the event that a read past the last would give
abbrev no_event : Event
no_event = record { time = 0; body = body.NodeAdded 0 }

pub loop-event-init : goal.loop-event-init
loop-event-init g c = record {
  put = put_first g.K.Sink c.args.sink.now c.args.text.now.items (events_text c.args.names.now c.args.events.now);
  counted = omega arith;
}

pub returns-in_err-write_event-clause-failed : goal.returns-in_err-write_event-clause-failed
returns-in_err-write_event-clause-failed g c =
    let names = c.args.names.now in
    let events = c.args.events.now in
    let i = c.loop-event.event-index in
    let all = c.args.text.now.items ++ events_text names events in
    let later = events_text names (drop (i + 1) events) in
    let line = events_text names (get_or events i no_event ∷ []) in
    let s : DumpStatus = c.in_err-write_event.field-0.0 in
    err_is c.from_residual.result s (λ (s : DumpStatus). PutFails g.K.Sink c.args.sink.now all s c.write_event.new.sink) c.from_residual.ensures
    (fails_next g.K.Sink c.args.sink.now c.loop-event.sink c.write_event.new.sink all c.loop-event.text.items line later s
    (put_left g.K.Sink c.args.sink.now c.loop-event.sink all c.loop-event.text.items _ (line ++ later) (next_line names events i no_event (omega arith)) c.loop-event.invariant.put)
    c.loop-event.invariant.counted c.in_err-write_event.ensures.failed)

pub returns-in_err-write_event-clause-counted : goal.returns-in_err-write_event-clause-counted
returns-in_err-write_event-clause-counted g c = omega (arith, c.loop-event.invariant.counted, c.write_event.ensures.counted)

pub loop-event-preserved : goal.loop-event-preserved
loop-event-preserved g c =
    let names = c.args.names.now in
    let events = c.args.events.now in
    let i = c.loop-event.event-index in
    let all = c.args.text.now.items ++ events_text names events in
    let later = events_text names (drop (i + 1) events) in
    let line = events_text names (get_or events i no_event ∷ []) in
    record {
      put =
          put_next g.K.Sink c.args.sink.now c.loop-event.sink c.write_event.new.sink all c.loop-event.text.items line later c.write_event.new.text.items
          (put_left g.K.Sink c.args.sink.now c.loop-event.sink all c.loop-event.text.items _ (line ++ later) (next_line names events i no_event (omega arith)) c.loop-event.invariant.put)
          c.in_ok-write_event.ensures.put;
      counted = omega (arith, c.loop-event.invariant.counted, c.write_event.ensures.counted);
    }

pub returns-clause-put : goal.returns-clause-put
returns-clause-put g c =
    let names = c.args.names.now in
    let events = c.args.events.now in
    let i = c.loop-event.event-index in
    put_done g.K.Sink c.args.sink.now c.loop-event.sink (c.args.text.now.items ++ events_text names events) c.loop-event.text.items _
    (no_line names events i (omega arith)) c.loop-event.invariant.put

pub returns-clause-counted : goal.returns-clause-counted
returns-clause-counted g c = c.loop-event.invariant.counted
