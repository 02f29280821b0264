use Rattle.std.proofs.Common.{IfSome, subst}
use Rattle.dg_pool.specs.Graphs.{PoolState}
use Rattle.dg_pool.specs.Slots.{IsLeastFree, NoneFree}
use Rattle.dg_pool.proofs.TakenSlots.{taken_behind_a_sweep}
use Rattle.dg_pool.proofs.pool.Pool.free_slot.Goals as goal

pub returns-clause-takes : goal.returns-clause-takes
returns-clause-takes c =
    taken_behind_a_sweep c.args.self.now c.clean_all.new.self
    (subst (λ (p : PoolState). NoneFree p.slots) c.self.view_is c.in_default.ensures.none)
    c.clean_all.ensures.states c.clean_all.ensures.sweep_index c.least_free-2.result
    (subst (λ (p : PoolState). IfSome c.least_free-2.result (IsLeastFree p.slots)) c.self-2.view_is c.least_free-2.ensures.some)

pub returns-clause-stays : goal.returns-clause-stays
returns-clause-stays c = λ some. absurd (some (subst (λ (p : PoolState). NoneFree p.slots) c.self.view_is c.in_default.ensures.none))
