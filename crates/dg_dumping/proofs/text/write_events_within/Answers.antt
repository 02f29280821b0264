use Rattle.std.proofs.Common.{◌≡◌, ◌⊎◌, inl, ◌+◌, ◌≤◌, true, false, [], ◌∷◌, ◌++◌, ap, drop, get_or, length, subst, sym, ◌∙◌, arith}
use Rattle.dg_graph.specs.declared.event.Body.TheVariants as body
use Rattle.dg_graph.specs.declared.event.Event.{Event}
use Rattle.dg_dumping.specs.PutText.{PutFails, events_text}
use Rattle.dg_dumping.specs.SpanText.{events_within, is_within}
use Rattle.dg_dumping.specs.declared.status.DumpStatus.{DumpStatus}
use Rattle.dg_dumping.proofs.Pieces.{fails_next, held_moved, next_outside, next_within, put_left, put_moved, put_next}
use Rattle.dg_start.proofs.EventSourceOutcomes.{err_is}
use Rattle.dg_dumping.proofs.text.write_events_within.Goals as goal
use Rattle.dg_dumping.proofs.text.write_events_within.Goals.{then-has+in_ok-write_event, else-has}

-- the event that a read past the last would give
abbrev no_event : Event
no_event = record { time = 0; body = body.NodeAdded 0 }

pub returns-in_err-write_event-clause-failed : goal.returns-in_err-write_event-clause-failed
returns-in_err-write_event-clause-failed g c =
    let names = c.args.names.now in
    let span = c.args.span in
    let events = c.args.events.now in
    let i = c.loop-event.event-index in
    let all = c.args.text.now.items ++ events_text names (events_within span events) in
    let later = events_text names (events_within span (drop (i + 1) events)) in
    let line = events_text names (get_or events i no_event ∷ []) in
    let s : DumpStatus = c.in_err-write_event.field-0.0 in
    err_is c.from_residual.result s (λ (s : DumpStatus). PutFails g.K.Sink c.args.sink.now all s c.write_event.new.sink) c.from_residual.ensures
    (fails_next g.K.Sink c.args.sink.now c.loop-event.sink c.write_event.new.sink all c.loop-event.text.items line later s
    (put_left g.K.Sink c.args.sink.now c.loop-event.sink all c.loop-event.text.items _ (line ++ later)
    (next_within names span events i no_event (omega arith) (sym c.has.ensures ∙ c.if-has.true)) c.loop-event.invariant.put)
    c.loop-event.invariant.counted c.in_err-write_event.ensures.failed)

pub loop-event-preserved : goal.loop-event-preserved
loop-event-preserved g c =
    let names = c.args.names.now in
    let span = c.args.span in
    let events = c.args.events.now in
    let i = c.loop-event.event-index in
    let all = c.args.text.now.items ++ events_text names (events_within span events) in
    let later = events_text names (events_within span (drop (i + 1) events)) in
    let line = events_text names (get_or events i no_event ∷ []) in
    record {
      put =
          elim c.if-has.branch [
            | then-has+in_ok-write_event w ↦ put_moved g.K.Sink c.args.sink.now c.if-has.sink w.write_event.new.sink all c.if-has.text.items w.write_event.new.text.items later w.sink-is (λ j. (w.text-is j).items)
                (put_next g.K.Sink c.args.sink.now c.loop-event.sink w.write_event.new.sink all c.loop-event.text.items line later w.write_event.new.text.items
                (put_left g.K.Sink c.args.sink.now c.loop-event.sink all c.loop-event.text.items _ (line ++ later)
                (next_within names span events i no_event (omega arith) (sym c.has.ensures ∙ w.if-has.true)) c.loop-event.invariant.put)
                w.in_ok-write_event.ensures.put)
            | else-has w ↦ put_moved g.K.Sink c.args.sink.now c.if-has.sink c.loop-event.sink all c.if-has.text.items c.loop-event.text.items later w.sink-is (λ j. (w.text-is j).items)
                (put_left g.K.Sink c.args.sink.now c.loop-event.sink all c.loop-event.text.items _ later
                (next_outside names span events i no_event (omega arith) (sym c.has.ensures ∙ w.if-has.false)) c.loop-event.invariant.put)
          ];
      held =
          elim c.if-has.branch [
            | then-has+in_ok-write_event w ↦ inl (subst (λ bytes. 1 ≤ length bytes) (sym (λ j. (w.text-is j).items)) w.in_ok-write_event.ensures.held)
            | else-has w ↦ held_moved c.args.sink.now c.loop-event.sink c.if-has.sink c.args.text.now.items c.loop-event.text.items c.if-has.text.items w.sink-is (λ j. (w.text-is j).items) c.loop-event.invariant.held
          ];
      counted =
          elim c.if-has.branch [
            | then-has+in_ok-write_event w ↦ omega (arith, c.loop-event.invariant.counted, w.write_event.ensures.counted, ap g.K.Sink.faults w.sink-is)
            | else-has w ↦ omega (arith, c.loop-event.invariant.counted, ap g.K.Sink.faults w.sink-is)
          ];
    }
