use Rattle.std.proofs.Common.{◌≡◌, take}
use Rattle.dg_machine.specs.declared.limits.Limits.{Limits}
use Rattle.dg_part_runs.specs.Disks.{ReadsAll, images_of}
use Rattle.dg_part_runs.specs.HeldParts.{AreGathered}
use Rattle.dg_part_runs.specs.PartDamage.{AreWhole}
use Rattle.dg_part_runs.proofs.gather.gather_all.Given as goal

abbrev pub invariant-loop-part : goal.invariant-loop-part
invariant-loop-part g l = record {
  same : l.sessions ≡ l.fn.sessions;
  reads : ReadsAll g.D.Disk l.fn.disks l.disks;
  whole : AreWhole l.t l.cols (take l.part l.fn.sessions) (take l.part (images_of g.D.Disk l.fn.disks));
  gathered : (limits : Limits) → AreGathered limits l.t l.cols (take l.part l.fn.sessions) (take l.part (images_of g.D.Disk l.fn.disks)) l.gathered.items;
}
