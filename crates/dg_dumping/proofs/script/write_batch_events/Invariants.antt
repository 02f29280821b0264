use Rattle.std.proofs.Common.{◌+◌, ◌-◌, ◌≤◌, ◌++◌}
use Rattle.dg_disk.specs.Calls.{ReadsDisk}
use Rattle.dg_dumping.specs.Dumped.{events_at}
use Rattle.dg_dumping.specs.PutText.{HasPut, events_text}
use Rattle.dg_dumping.proofs.Batches.{left_from}
use Rattle.dg_io.specs.Calls.{PutsOn}
use Rattle.dg_spans.specs.Stretches.{AreEventsFrom, WhereStands}
use Rattle.dg_dumping.proofs.script.write_batch_events.Given as goal

abbrev pub invariant-loop-at : goal.invariant-loop-at
invariant-loop-at g l = record {
  low : l.place.before ≤ l.at;
  high : l.at ≤ l.place.before + l.place.batch.events;
  put : WhereStands (g.D.Disk.image l.fn.disk) (λ z. HasPut g.K.Sink l.fn.sink (l.fn.text.items ++ events_text l.names (events_at z l.place)) l.sink l.text.items (events_text l.names (left_from z l.at (l.place.before + l.place.batch.events))));
  own : WhereStands (g.D.Disk.image l.fn.disk) (λ z. AreEventsFrom z l.held.start l.held.events.items);
  counted : PutsOn g.K.Sink l.fn.sink l.sink;
  disk : ReadsDisk g.D.Disk l.fn.disk l.disk;
}

abbrev pub decreases-loop-at : goal.decreases-loop-at
decreases-loop-at g l = l.place.before + l.place.batch.events - l.at
