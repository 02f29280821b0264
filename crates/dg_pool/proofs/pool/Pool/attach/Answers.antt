use Rattle.dg_pool.proofs.TakenSlots.{taken_still}
use Rattle.dg_pool.proofs.pool.Pool.attach.Goals as goal

pub returns-clause-takes : goal.returns-clause-takes
returns-clause-takes c =
    let a = c.in_ok-attach_at.ensures in
    taken_still c.args.self.now c.free_slot.new.self c.attach_at.new.self c.in-Some.slot c.in-Some.ensures.takes a.place a.states a.cells
