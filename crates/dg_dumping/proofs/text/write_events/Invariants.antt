use Rattle.std.proofs.Common.{◌++◌, drop}
use Rattle.dg_dumping.specs.PutText.{HasPut, events_text}
use Rattle.dg_io.specs.Calls.{PutsOn}
use Rattle.dg_dumping.proofs.text.write_events.Given as goal

abbrev pub invariant-loop-event : goal.invariant-loop-event
invariant-loop-event g l = record {
  put : HasPut g.K.Sink l.fn.sink (l.fn.text.items ++ events_text l.names l.events) l.sink l.text.items (events_text l.names (drop l.event-index l.events));
  counted : PutsOn g.K.Sink l.fn.sink l.sink;
}
