use Rattle.std.proofs.Common.{◌≡◌, ℕ, List, ◌+◌, ◌-◌, ◌*◌, ◌≤◌, length}
use Rattle.dg_graph.specs.declared.event.Event.{Event}
use Rattle.dg_build.specs.InteriorDeltas.{DiffersInDeltas, IsBehind}
use Rattle.dg_build.proofs.InteriorDeltaGroups.{NodesSoFar}
use Rattle.dg_build.proofs.GivenDeltas.{NodesGiven}
use Rattle.dg_build.proofs.climb.later_nodes.Given as goal

abbrev pub decreases-loop-alloc : goal.decreases-loop-alloc
decreases-loop-alloc l = l.more - length l.steps.items

abbrev pub invariant-loop-alloc : goal.invariant-loop-alloc
invariant-loop-alloc l = record {
  within : length l.steps.items ≤ l.more;
  row : length l.row.items ≡ (l.more - length l.steps.items) * l.params.k;
  frame : DiffersInDeltas l.fn.segment l.segment;
  adds : length l.segment.deltas ≡ length l.fn.segment.deltas + length l.steps.items * l.params.k;
  is : (events : List Event) (h j : ℕ) → IsBehind l.params events h j l.more l.fn.last l.fn.row.items
      → NodesSoFar l.params events h j l.more (length l.steps.items) l.steps.items l.last l.row.items l.fn.segment l.segment;
  given : NodesGiven l.params l.more l.fn.last l.last l.fn.row.items l.row.items l.steps.items l.fn.segment.deltas l.segment.deltas;
}
