use Rattle.std.proofs.Common.{reverse, length}
use Rattle.std.proofs.lemmas.List.{length_push}
use Rattle.std.proofs.lemmas.Iterator.Adapters.{YieldsList-from_rev_slice}
use Rattle.std.proofs.lemmas.Iterator.Consumers.{YieldsList-turn}
use Rattle.dg_graph.specs.Effect.{removed_by, added_by}
use Rattle.dg_net.proofs.EventMarks.{marks_turn}
use Rattle.dg_net.proofs.marks.marks_back.Goals as goal

pub loop-event-preserved : goal.loop-event-preserved
loop-event-preserved c =
    let events = c.args.events.now in
    let old = c.loop-event in
    let effect = c.effect-removed in
    let turn =
    YieldsList-turn (YieldsList-from_rev_slice events cc) old.yielded _ old.yielded_by _ _ c.in-Some.event c.in-Some.is c.next.ensures.steps in
    marks_turn (λ e. added_by e.body) (λ e. removed_by e.body) (reverse events) (length old.yielded) _ c.in-Some.event.now old.marks.items c.push_marks.new.marks.items effect.result.1 effect.result.0 _
    turn (length_push old.yielded c.in-Some.event) effect.ensures.added effect.ensures.removed c.in_ok-push_marks.ensures old.invariant
