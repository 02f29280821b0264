use Rattle.std.proofs.Common.{take}
use Rattle.dg_splitting.specs.WholeHistory.{AreApart}
use Rattle.dg_splitting.proofs.events.first_crowded.Given as goal

abbrev pub invariant-loop-index : goal.invariant-loop-index
invariant-loop-index l = AreApart (take l.index l.events)
