use Rattle.std.proofs.Common.{◌≡◌, ◌++◌, map, drop}
use Rattle.dg_ask.specs.HeldIndex.{point_over}
use Rattle.dg_session.proofs.retrieval.points_of.Given as goal

abbrev pub invariant-loop-t : goal.invariant-loop-t
invariant-loop-t l =
    l.points.items ++ map (point_over l.index.opening l.recent) (drop l.t-index l.times) ≡ map (point_over l.index.opening l.recent) l.times
