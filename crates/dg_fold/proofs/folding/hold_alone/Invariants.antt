use Rattle.std.proofs.Common.{[], take}
use Rattle.dg_fold.specs.BytesRead.{HoldsWhatIsEntered}
use Rattle.dg_fold.proofs.folding.hold_alone.Given as goal

abbrev pub invariant-loop-i : goal.invariant-loop-i
invariant-loop-i l = HoldsWhatIsEntered [] (take l.i l.edges)
