use Rattle.std.proofs.Common.{◌≡◌, ◌++◌, drop, length, map}
use Rattle.dg_append.proofs.older_sets.steps_between.Given as goal
use Rattle.dg_append.specs.OlderChildSteps.{set_among}
use Rattle.dg_build.specs.InteriorDeltas.{steps_to}

abbrev pub invariant-loop-i : goal.invariant-loop-i
invariant-loop-i l = record {
  count : length l.steps.items ≡ l.i;
  is : l.steps.items ++ steps_to (map (set_among l.nodes l.sets l.end) (drop l.i l.in_time)) l.end ≡ steps_to (map (set_among l.nodes l.sets l.end) l.in_time) l.end;
}
