use Rattle.std.proofs.Common.{take}
use Rattle.dg_pool.specs.Changes.{AreWithin, numbers_of}
use Rattle.dg_pool.proofs.targets.words_of.Given as goal

abbrev pub invariant-loop-slot : goal.invariant-loop-slot
invariant-loop-slot l = AreWithin (numbers_of (take l.slot-index l.slots)) l.first l.end
