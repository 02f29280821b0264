use Rattle.std.proofs.Common.{take}
use Rattle.dg_pool.specs.Changes.{IsMarked, numbers_of}
use Rattle.dg_pool.specs.Graphs.{is_on_now}
use Rattle.dg_pool.proofs.targets.on_now_of.Given as goal

abbrev pub invariant-loop-slot : goal.invariant-loop-slot
invariant-loop-slot l = IsMarked (is_on_now) l.states (numbers_of (take l.slot-index l.slots)) l.mask
