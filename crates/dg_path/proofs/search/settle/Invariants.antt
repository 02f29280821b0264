use Rattle.std.proofs.Common.{◌≡◌, ℕ, List, length}
use Rattle.std.specs.BinaryHeap.{heap_items}
use Rattle.dg_path.specs.Search.{arcs, Walked, CostsFit, AllKnown, Falls, effort}
use Rattle.dg_path.proofs.search.settle.Given as goal

abbrev pub invariant-loop-top : goal.invariant-loop-top
invariant-loop-top l =
    (length l.costs ≡ length l.fn.costs)
    × CostsFit l.costs
    × AllKnown (arcs l.links) l.costs (heap_items l.queue)
    × ((starts : List ℕ) → Walked (arcs l.links) starts l.fn.costs → Walked (arcs l.links) starts l.costs)
    × Falls l.fn.costs l.costs

abbrev pub decreases-loop-top : goal.decreases-loop-top
decreases-loop-top l = effort l.costs (length (heap_items l.queue))
