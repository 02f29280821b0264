use Rattle.std.proofs.Common.{◌≡◌, take, count_by}
use Rattle.dg_pool.specs.Graphs.{is_live}
use Rattle.dg_pool.proofs.slots.count_live.Given as goal

abbrev pub invariant-loop-state : goal.invariant-loop-state
invariant-loop-state l = l.count ≡ count_by is_live (take l.state-index l.slots)
