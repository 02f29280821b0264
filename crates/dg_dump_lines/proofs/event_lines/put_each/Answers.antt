use Rattle.std.proofs.Common.{refl, arith}
use Rattle.dg_graph.specs.declared.event.Body.TheVariants as body
use Rattle.dg_graph.specs.declared.event.Event.{Event}
use Rattle.dg_dump_lines.proofs.Lines.{event_more, events_past, goes_itself, goes_word}
use Rattle.dg_dump_lines.proofs.event_lines.put_each.Goals as goal

-- the event that a read past the last would give
abbrev no_event : Event
no_event = record { time = 0; body = body.NodeAdded 0 }

pub loop-event-init : goal.loop-event-init
loop-event-init c = record { put = refl; kept = goes_itself c.args.text.now.items }

pub returns-in_err-put_change-clause-kept : goal.returns-in_err-put_change-clause-kept
returns-in_err-put_change-clause-kept c = goes_word c.put_change.result _ _ _ _ c.loop-event.invariant.kept c.put_change.ensures.put c.put_change.ensures.err

pub loop-event-preserved : goal.loop-event-preserved
loop-event-preserved c = record {
  put =
      event_more c.args.names.now c.args.events.now c.loop-event.event-index no_event c.loop-event.text.items _ _ (omega arith)
      c.in_ok-put_change.ensures.put c.loop-event.invariant.put;
  kept = goes_word c.put_change.result _ _ _ _ c.loop-event.invariant.kept c.put_change.ensures.put c.put_change.ensures.err;
}

pub returns-clause-put : goal.returns-clause-put
returns-clause-put c =
    events_past c.args.names.now c.args.events.now c.loop-event.event-index c.loop-event.text.items _ (omega arith) c.loop-event.invariant.put

pub returns-clause-kept : goal.returns-clause-kept
returns-clause-kept c = c.loop-event.invariant.kept
