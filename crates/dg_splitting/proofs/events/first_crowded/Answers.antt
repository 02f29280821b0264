use Rattle.std.proofs.Common.{◌≡◌, ℕ, List, take, length, subst, sym, arith}
use Rattle.std.proofs.lemmas.List.{take_all}
use Rattle.dg_graph.specs.declared.event.Event.{Event}
use Rattle.dg_history.specs.declared.limits.TheConstants.{BATCH_LINES_MAX}
use Rattle.dg_splitting.specs.WholeHistory.{AreApart}
use Rattle.dg_splitting.proofs.EventCrowds.{first_crowd, first_few, one_more}
use Rattle.dg_splitting.proofs.events.first_crowded.Goals as goal

pub loop-index-init : goal.loop-index-init
loop-index-init c = first_few BATCH_LINES_MAX c.args.events.now

pub returns-then-events-index-clause-crowded : goal.returns-then-events-index-clause-crowded
returns-then-events-index-clause-crowded c =
    first_crowd c.loop-index.index c.args.events.now _ c.requires (omega arith) (omega arith) c.if-events-index.true c.loop-index.invariant

pub loop-index-preserved : goal.loop-index-preserved
loop-index-preserved c =
    one_more BATCH_LINES_MAX 0 c.loop-index.index c.args.events.now _ c.requires (omega arith) (omega arith) c.if-events-index.false c.loop-index.invariant

pub returns-clause-apart : goal.returns-clause-apart
returns-clause-apart c = λ _. subst AreApart (take_all c.loop-index.index c.args.events.now (omega arith)) c.loop-index.invariant
