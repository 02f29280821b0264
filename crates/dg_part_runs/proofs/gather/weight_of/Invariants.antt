use Rattle.std.proofs.Common.{◌≡◌, map, take}
use Rattle.std.specs.Prelude.{sum}
use Rattle.dg_part_runs.proofs.gather.weight_of.Given as goal

abbrev pub invariant-loop-part : goal.invariant-loop-part
invariant-loop-part l = l.weight ≡ sum (map (λ g. g.weight) (take l.part-index l.gathered))
