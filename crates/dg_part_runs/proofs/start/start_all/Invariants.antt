use Rattle.std.proofs.Common.{◌≡◌, ◌≤◌, length, take}
use Rattle.std.specs.Prelude.{vec_capacity, vec_len}
use Rattle.dg_part_runs.specs.Disks.{SyncsAll, images_of}
use Rattle.dg_part_runs.specs.StartedParts.{AreStarted}
use Rattle.dg_part_runs.proofs.start.start_all.Given as goal

abbrev pub invariant-loop-part : goal.invariant-loop-part
invariant-loop-part g l = record {
  started : AreStarted l.limits l.sessions.items (take l.part (images_of g.D.Disk l.fn.disks));
  disks : SyncsAll g.D.Disk l.fn.disks l.disks;
  len : vec_len l.sessions ≡ l.part;
  room : length l.fn.disks ≤ vec_capacity l.sessions;
}
