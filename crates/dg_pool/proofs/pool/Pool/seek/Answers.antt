use Rattle.std.proofs.Common.{◌≡◌, Some, subst}
use Rattle.dg_pool.specs.Graphs.{PoolState, slot_graph}
use Rattle.dg_pool.specs.Sweeps.{members_as}
use Rattle.dg_pool.specs.Listing.{members_from, not_before}
use Rattle.dg_pool.proofs.ListingSets.{members_from_lower}
use Rattle.dg_pool.proofs.pool.Pool.seek.Goals as goal

pub returns : goal.returns
returns c = λ s.
    let p : PoolState = record { rows = c.self.inside.cells; slots = c.self.inside.slots; sweep_index = c.self.inside.sweep_index } in
    let f = c.order_facts.ensures in
    subst (λ (q : PoolState). members_from q s c.seek.result ≡ not_before (members_as (slot_graph q s)) (Some c.args.element.now)) c.self.view_is
    (members_from_lower p c.facts.ensures f.rises f.all f.only s c.seek.result c.args.element.now c.seek.ensures)
