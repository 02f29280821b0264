use Rattle.std.proofs.Common.{◌≡◌, map, take}
use Rattle.dg_view.proofs.adjacency.Adjacency.neighbours.Given as goal

abbrev pub invariant-loop-end : goal.invariant-loop-end
invariant-loop-end l = l.list.items ≡ map (λ end. end.edge) (take l.end-index l.ends)
