use Rattle.std.proofs.Common.{[], take}
use Rattle.std.specs.BinaryHeap.{heap_items}
use Rattle.dg_plan.specs.Walks.{entered}
use Rattle.dg_path.specs.Search.{arcs, WithStarts}
use Rattle.dg_path.proofs.table.grow.Given as goal

abbrev pub invariant-loop-step : goal.invariant-loop-step
invariant-loop-step l = WithStarts (entered (arcs l.links) (take l.step-index l.steps)) l.fn.costs [] l.costs (heap_items l.queue)
