use Rattle.std.proofs.Common.{◌+◌, List, drop, slice_index_or, sym, ap, subst, ◌∙◌}
use Rattle.std.proofs.lemmas.List.{drop_more}
use Rattle.dg_graph.specs.declared.element.Element.{Element}
use Rattle.dg_graph.specs.declared.event.Event.{Event}
use Rattle.dg_graph.specs.declared.event.Body.TheVariants as body
use Rattle.dg_graph.specs.Replay.{replay_from}
use Rattle.dg_cells.specs.Rows.{is_current}
use Rattle.dg_pool.specs.Graphs.{HaveCells, picked}
use Rattle.dg_pool.proofs.CurrentGraph.{keeps_then, have_still}
use Rattle.dg_pool.proofs.current.pass_all.Goals as goal

-- what an index past the list reads as
abbrev past : Event
past = record { time = 0; body = body.NodeAdded 0 }

pub loop-event-preserved : goal.loop-event-preserved
loop-event-preserved c =
    let slots = c.args.slots.now in
    let old = c.args.cells.now in
    let mid = c.loop-event.cells in
    let new = c.pass-passed.new.cells in
    let es = c.args.events.now in
    let i = c.loop-event.event-index in
    let e = slice_index_or es i past in
    let next = drop_more es i past c.loop-event-test.true in
    record {
      kept = keeps_then slots old mid new c.loop-event.invariant.kept c.pass-passed.ensures.kept;
      now = ap (λ (g : List Element). replay_from g (drop (i + 1) es)) c.pass-passed.ensures.now
          ∙ ap (replay_from (picked is_current mid)) (sym next) ∙ c.loop-event.invariant.now;
      counted = c.pass-passed.ensures.counted;
      there = have_still slots mid new c.pass-passed.ensures.kept (drop (i + 1) es) (subst (HaveCells mid) next c.loop-event.invariant.there).1;
    }
