use Rattle.dg_fold.proofs.folding.enter.Given as goal

abbrev pub invariant-loop-edge : goal.invariant-loop-edge
invariant-loop-edge l = Unit {0}
