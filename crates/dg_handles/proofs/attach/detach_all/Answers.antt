use Rattle.std.proofs.Common.{◌∙◌}
use Rattle.dg_handles.proofs.AttachedEnds.{detached_more, still_live, still_unused}
use Rattle.dg_handles.proofs.attach.detach_all.Goals as goal

pub detach-requires-clause-live : goal.detach-requires-clause-live
detach-requires-clause-live c =
    still_live c.args.pool.now c.loop-slot.pool c.args.slots.now c.loop-slot.slot-index _ c.loop-slot-test.true c.requires.live c.requires.apart c.loop-slot.invariant.others

pub detach-requires-clause-unused : goal.detach-requires-clause-unused
detach-requires-clause-unused c =
    still_unused c.args.pool.now c.loop-slot.pool c.args.slots.now c.loop-slot.slot-index _ c.loop-slot-test.true c.requires.unused c.loop-slot.invariant.gone c.loop-slot.invariant.others

pub loop-slot-preserved : goal.loop-slot-preserved
loop-slot-preserved c =
    let more = detached_more c.args.pool.now c.loop-slot.pool c.args.slots.now c.loop-slot.slot-index _ c.loop-slot-test.true c.detach.new.pool
    c.loop-slot.invariant.gone c.loop-slot.invariant.others c.detach.ensures.gone c.detach.ensures.others in
    record { gone = more.0; others = more.1; now = c.detach.ensures.now ∙ c.loop-slot.invariant.now }
