use Rattle.std.proofs.Common.{◌≡◌, ◌≤◌, length, take}
use Rattle.dg_build.specs.GivenDeltas.{gone_back}
use Rattle.dg_build.proofs.start.back_over.Given as goal

abbrev pub decreases-loop-left : goal.decreases-loop-left
decreases-loop-left l = l.left

abbrev pub invariant-loop-left : goal.invariant-loop-left
invariant-loop-left l = record {
  within : l.left ≤ length l.steps;
  back : gone_back (take l.left l.steps) l.set ≡ gone_back l.steps l.fn.end;
}
