use Rattle.std.proofs.Common.{◌≡◌, drop, length, reverse}
use Rattle.dg_retrieval.specs.Beginnings.{begun_behind, begun_within}
use Rattle.dg_retrieval.proofs.beginnings.beginning_of.Given as goal

abbrev pub invariant-loop-edge : goal.invariant-loop-edge
invariant-loop-edge l = begun_behind (drop (length l.yielded) (reverse l.walk)) l.node ≡ begun_within l.walk l.fn.target
