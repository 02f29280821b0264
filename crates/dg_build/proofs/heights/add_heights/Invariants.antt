use Rattle.std.proofs.Common.{◌≡◌, List, ◌++◌, ◌≤◌, length, take}
use Rattle.dg_graph.specs.declared.event.Event.{Event}
use Rattle.dg_index.specs.Hierarchy.{leaves}
use Rattle.dg_build.specs.InteriorDeltas.{AreNewNodes, DiffersInDeltas}
use Rattle.dg_build.specs.OlderSteps.{AreOlderSteps, IsTopDue, first_in_time, last_leaf}
use Rattle.dg_build.proofs.InteriorDeltaHeights.{CountsSoFar, RisesSoFar}
use Rattle.dg_build.proofs.GivenDeltas.{HeightsGiven}
use Rattle.dg_build.proofs.heights.add_heights.Given as goal

abbrev pub decreases-loop-q : goal.decreases-loop-q
decreases-loop-q l = l.end

abbrev pub invariant-loop-q : goal.invariant-loop-q
invariant-loop-q l = record {
  within : l.at ≤ length l.older_steps;
  frame : DiffersInDeltas l.fn.segment l.segment;
  counts : CountsSoFar l.params.k l.m l.after l.q l.end l.at (length l.nodes.steps.items) (length l.fn.segment.deltas) (length l.segment.deltas);
  is : (before more : List Event) → 1 ≤ l.params.l → leaves l.params (length before) ≡ l.m
      → AreNewNodes l.params (before ++ more) 0 l.m l.after (last_leaf l.params before) l.fn.new_leaves.up l.fn.new_leaves.steps.items → AreOlderSteps l.params before l.after l.older_steps
      → (IsTopDue l.params.k l.m l.after → l.base ≡ first_in_time l.params before l.after)
      → RisesSoFar l.params before more l.m l.after l.q l.end (take l.at l.older_steps) l.base l.nodes.up l.nodes.steps.items l.fn.segment l.segment;
  given : HeightsGiven l.params l.m l.after l.q l.end l.older_steps (take l.at l.older_steps) l.base (record { up = l.fn.new_leaves.up; steps = l.fn.new_leaves.steps.items }) (record { up = l.nodes.up; steps = l.nodes.steps.items }) l.fn.segment.deltas l.segment.deltas;
}
