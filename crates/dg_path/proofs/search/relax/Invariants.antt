use Rattle.std.proofs.Common.{true, length, ◌-◌, ◌≡◌}
use Rattle.std.specs.BinaryHeap.{heap_items}
use Rattle.dg_path.specs.Search.{label_at, IsNext, Lowered}
use Rattle.dg_path.proofs.search.relax.Given as goal

abbrev pub invariant-loop-edge : goal.invariant-loop-edge
invariant-loop-edge l =
    (l.from ≡ label_at l.fn.costs l.node)
    × IsNext true l.links l.node l.edge l.edge
    × Lowered l.links l.node l.edge l.fn.costs (heap_items l.fn.queue) l.costs (heap_items l.queue)

abbrev pub decreases-loop-edge : goal.decreases-loop-edge
decreases-loop-edge l = length l.links - l.edge
