use Rattle.dg_graph.specs.declared.event.Event.{Event}
use Rattle.dg_graph.specs.declared.event.Body.TheVariants as body
use Rattle.dg_cells.proofs.RowGrowth.{reuses_then}
use Rattle.dg_pool.proofs.GrownCells.{grows_then}
use Rattle.dg_pool.proofs.GraphEventCells.{have_next}
use Rattle.dg_pool.proofs.room.add_by_all.Goals as goal

-- what an index past the list reads as
abbrev past : Event
past = record { time = 0; body = body.NodeAdded 0 }

pub loop-event-preserved : goal.loop-event-preserved
loop-event-preserved c =
    let old = c.loop-event.cells in
    let new = c.add_by.new.cells in
    let inv = c.loop-event.invariant in
    record {
      grows = grows_then c.args.cells.now old new inv.grows c.add_by.ensures.grows;
      there = have_next old new c.args.events.now c.loop-event.event-index past c.loop-event-test.true c.add_by.ensures.grows inv.there c.in_ok-add_by.ensures.there;
      reuses = reuses_then c.args.cells.now old new c.add_by.ensures.grows inv.reuses c.add_by.ensures.reuses;
    }

pub returns-in_err-add_by-clause-reuses : goal.returns-in_err-add_by-clause-reuses
returns-in_err-add_by-clause-reuses c =
    reuses_then c.args.cells.now c.loop-event.cells c.add_by.new.cells c.add_by.ensures.grows c.loop-event.invariant.reuses c.add_by.ensures.reuses
