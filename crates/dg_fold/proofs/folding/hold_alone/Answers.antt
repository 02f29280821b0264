use Rattle.std.proofs.Common.{[], subst}
use Rattle.std.proofs.lemmas.List.{take_all}
use Rattle.dg_fold.specs.BytesRead.{HoldsWhatIsEntered}
use Rattle.dg_fold.proofs.Foldings.{next_holds}
use Rattle.dg_fold.proofs.folding.hold_alone.Goals as goal

pub loop-i-preserved : goal.loop-i-preserved
loop-i-preserved c = next_holds c.args.edges.now c.loop-i.i _ c.loop-i-test.true c.loop-i.invariant (c.holds_behind.ensures c.if-not-holds_behind.false)

pub returns : goal.returns
returns c = λ yes. subst (HoldsWhatIsEntered []) (take_all c.loop-i.i c.args.edges.now c.loop-i-test.false) c.loop-i.invariant
