use Rattle.std.proofs.Common.{◌≡◌, ◌+◌, ◌-◌, ◌++◌, drop, length}
use Rattle.dg_disk.specs.Calls.{ReadsDisk}
use Rattle.dg_dump.specs.ScriptOfHistory.{batches_lines, text_of_lines}
use Rattle.dg_dumping.specs.PutText.{HasPut}
use Rattle.dg_dumping.proofs.Batches.{lines_from}
use Rattle.dg_index.specs.OpenedIndex.{event_total}
use Rattle.dg_io.specs.Calls.{PutsOn}
use Rattle.dg_spans.specs.Stretches.{AreEventsFrom, WhereStands}
use Rattle.dg_dumping.proofs.script.write_batches.Given as goal

abbrev pub invariant-loop-batch : goal.invariant-loop-batch
invariant-loop-batch g l = record {
  events : l.before + event_total (drop l.number l.index.opening.batches) ≡ event_total l.index.opening.batches;
  put : WhereStands (g.D.Disk.image l.fn.disk) (λ z. HasPut g.K.Sink l.fn.sink (l.fn.text.items ++ text_of_lines (batches_lines l.names z.batches)) l.sink l.text.items (text_of_lines (lines_from l.names l.number (drop l.number z.batches))));
  own : WhereStands (g.D.Disk.image l.fn.disk) (λ z. AreEventsFrom z l.held.start l.held.events.items);
  counted : PutsOn g.K.Sink l.fn.sink l.sink;
  disk : ReadsDisk g.D.Disk l.fn.disk l.disk;
}

abbrev pub decreases-loop-batch : goal.decreases-loop-batch
decreases-loop-batch g l = length l.index.opening.batches - l.number
