use Rattle.std.proofs.Common.{◌≡◌, map, take}
use Rattle.dg_retrieval.specs.Beginnings.{begun_within}
use Rattle.dg_retrieval.proofs.beginnings.beginnings_of.Given as goal

abbrev pub invariant-loop-target : goal.invariant-loop-target
invariant-loop-target l = l.begins.items ≡ map (begun_within l.walk) (take l.target-index l.targets)
