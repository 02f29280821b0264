use Rattle.std.proofs.Common.{◌≡◌, ◌⊎◌, ◌≤◌, ◌+◌, ◌-◌, ◌++◌, drop, length, min}
use Rattle.dg_disk.specs.Calls.{ReadsDisk}
use Rattle.dg_dumping.specs.PutText.{HasPut, events_text}
use Rattle.dg_dumping.specs.SpanText.{events_within}
use Rattle.dg_dumping.proofs.Batches.{left_from}
use Rattle.dg_history.specs.History.{events_of}
use Rattle.dg_index.specs.OpenedIndex.{event_total}
use Rattle.dg_io.specs.Calls.{PutsOn}
use Rattle.dg_spans.specs.Stretches.{AreEventsFrom, WhereStands}
use Rattle.dg_dumping.proofs.changes.write_changes.Given as goal

abbrev pub invariant-loop-batch : goal.invariant-loop-batch
invariant-loop-batch g l = record {
  events : l.before + event_total (drop l.number l.index.opening.batches) ≡ event_total l.index.opening.batches;
  low : min l.range.stop l.before ≤ l.at;
  put : WhereStands (g.D.Disk.image l.fn.disk)
      (λ z. HasPut g.K.Sink l.fn.sink (l.fn.text.items ++ events_text l.names (events_within l.span (events_of z))) l.sink l.text.items (events_text l.names (events_within l.span (left_from z l.at l.range.stop))));
  back : (1 ≤ length l.text.items) ⊎ (l.sink ≡ l.fn.sink);
  own : WhereStands (g.D.Disk.image l.fn.disk) (λ z. AreEventsFrom z l.held.start l.held.events.items);
  counted : PutsOn g.K.Sink l.fn.sink l.sink;
  disk : ReadsDisk g.D.Disk l.fn.disk l.disk;
}

abbrev pub decreases-loop-batch : goal.decreases-loop-batch
decreases-loop-batch g l = length l.index.opening.batches - l.number + (l.range.stop - l.at)
