use Rattle.std.proofs.Common.{sym, ap, subst, ◌∙◌}
use Rattle.dg_pool.specs.Graphs.{PoolState, slot_graph}
use Rattle.dg_pool.specs.Sweeps.{members_as}
use Rattle.dg_pool.specs.Slots.{IsLive}
use Rattle.dg_query.specs.Queries.{counts_of}
use Rattle.dg_pool.proofs.CountPreservation.{counts_seen}
use Rattle.dg_pool.proofs.pool.Pool.counts.Goals as goal

pub returns : goal.returns
returns c =
    let s = c.args.slot.0 in
    let p : PoolState = record { rows = c.self.inside.cells; slots = c.self.inside.slots; sweep_index = c.self.inside.sweep_index } in
    counts_seen p c.self.inside.counts s c.self.invariant.counted (subst (λ (q : PoolState). IsLive q c.args.slot) (sym c.self.view_is) c.requires)
    ∙ ap (λ (q : PoolState). counts_of (members_as (slot_graph q s))) c.self.view_is
