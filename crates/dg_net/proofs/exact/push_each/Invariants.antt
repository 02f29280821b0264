use Rattle.std.proofs.Common.{◌≡◌, ◌++◌, drop}
use Rattle.dg_net.specs.Surplus.{each_once}
use Rattle.dg_net.proofs.exact.push_each.Given as goal

abbrev pub invariant-loop-index : goal.invariant-loop-index
invariant-loop-index l = l.kept.items ++ each_once (drop l.index l.list) ≡ l.fn.kept.items ++ each_once l.list
