use Rattle.std.proofs.Common.{◌≤◌, ◌-◌, length}
use Rattle.dg_disk.specs.Calls.{StaysOnDevice, UsesDisk}
use Rattle.dg_part_files.proofs.batches.write_batches.Given as goal
use Rattle.dg_part_files.specs.WrittenParts.{IsAt}

abbrev pub invariant-loop-done : goal.invariant-loop-done
invariant-loop-done g l = record {
  within : l.done ≤ length l.part.events.now;
  at : IsAt l.limit l.part.params l.part.names.now l.part.events.now l.done l.live (g.D.Disk.image l.out);
  used : UsesDisk g.D.Disk l.initial.out l.out;
  settled : StaysOnDevice g.D.Disk l.initial.out l.out;
}

abbrev pub decreases-loop-done : goal.decreases-loop-done
decreases-loop-done g l = length l.part.events.now - l.done
