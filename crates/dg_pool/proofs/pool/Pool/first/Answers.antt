use Rattle.std.proofs.Common.{◌≡◌, subst}
use Rattle.dg_pool.specs.Graphs.{PoolState, slot_graph}
use Rattle.dg_pool.specs.Sweeps.{members_as}
use Rattle.dg_pool.specs.Listing.{members_from}
use Rattle.dg_pool.proofs.ListingSets.{members_from_first}
use Rattle.dg_pool.proofs.pool.Pool.first.Goals as goal

pub returns : goal.returns
returns c = λ s.
    let p : PoolState = record { rows = c.self.inside.cells; slots = c.self.inside.slots; sweep_index = c.self.inside.sweep_index } in
    let f = c.order_facts.ensures in
    subst (λ (q : PoolState). members_from q s c.first.result ≡ members_as (slot_graph q s)) c.self.view_is
    (members_from_first p c.facts.ensures f.rises f.all f.only s c.first.result c.first.ensures)
