use Rattle.std.proofs.Common.{◌≡◌, drop}
use Rattle.dg_messages.specs.Once.{each_once, once_behind}
use Rattle.dg_messages.proofs.once.each_once.Given as goal

abbrev pub invariant-loop-n : goal.invariant-loop-n
invariant-loop-n l = once_behind l.instants.items (drop l.n l.times) ≡ each_once l.times
