use Rattle.std.proofs.Common.{◌≡◌, ℕ, List, [], ◌+◌, ◌*◌, ◌++◌, ◌≤◌, ◌<◌, length, take, drop, get_or}
use Rattle.dg_graph.specs.declared.event.Event.{Event}
use Rattle.dg_graph.specs.ExactEvents.{AreChangesOf}
use Rattle.dg_index.specs.Hierarchy.{leaves}
use Rattle.dg_index.specs.IndexRecords.{recent_of}
use Rattle.dg_graph.specs.Composition.{nothing}
use Rattle.dg_build.specs.GivenDeltas.{IsExactNet}
use Rattle.dg_build.proofs.InteriorDeltaLeaves.{StepsSoFar}
use Rattle.dg_build.proofs.leaves.leaf_steps.Given as goal

abbrev pub invariant-loop-i : goal.invariant-loop-i
invariant-loop-i l = record {
  long : length l.steps.items + 1 ≡ l.i;
  is : (before more : List Event) → 1 ≤ l.fn.params.l → l.first_list ++ l.later ≡ recent_of l.fn.params before ++ more → AreChangesOf [] (before ++ more) → StepsSoFar l.fn.params (before ++ more) (leaves l.fn.params (length before)) l.i l.steps.items;
  nets : (j : ℕ) → j < length l.steps.items → IsExactNet (take l.fn.params.l (drop ((j + 1) * l.fn.params.l) (l.first_list ++ l.later))) (get_or l.steps.items j nothing);
}
