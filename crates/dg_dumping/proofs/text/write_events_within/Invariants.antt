use Rattle.std.proofs.Common.{◌≡◌, ◌⊎◌, ◌≤◌, ◌++◌, drop, length}
use Rattle.dg_dumping.specs.PutText.{HasPut, events_text}
use Rattle.dg_dumping.specs.SpanText.{events_within}
use Rattle.dg_io.specs.Calls.{PutsOn}
use Rattle.dg_dumping.proofs.text.write_events_within.Given as goal

abbrev pub invariant-loop-event : goal.invariant-loop-event
invariant-loop-event g l = record {
  put : HasPut g.K.Sink l.fn.sink (l.fn.text.items ++ events_text l.names (events_within l.span l.events)) l.sink l.text.items (events_text l.names (events_within l.span (drop l.event-index l.events)));
  held : (1 ≤ length l.text.items) ⊎ ((l.sink ≡ l.fn.sink) × (l.text.items ≡ l.fn.text.items));
  counted : PutsOn g.K.Sink l.fn.sink l.sink;
}
