use Rattle.std.proofs.Common.{take}
use Rattle.dg_pool.specs.Changes.{IsMarked, numbers_of}
use Rattle.dg_pool.specs.Masks.{is_asking}
use Rattle.dg_pool.proofs.targets.asking_of.Given as goal

abbrev pub invariant-loop-slot : goal.invariant-loop-slot
invariant-loop-slot l = IsMarked (is_asking l.column) l.states (numbers_of (take l.slot-index l.slots)) l.mask
