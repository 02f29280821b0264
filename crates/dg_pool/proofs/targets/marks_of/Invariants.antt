use Rattle.std.proofs.Common.{take}
use Rattle.dg_pool.specs.Changes.{AreMarks, numbers_of}
use Rattle.dg_pool.proofs.targets.marks_of.Given as goal

abbrev pub invariant-loop-slot : goal.invariant-loop-slot
invariant-loop-slot l = AreMarks (numbers_of (take l.slot-index l.slots)) l.explicit l.both
