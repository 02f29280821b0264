use Rattle.std.proofs.Common.{length, sym, ap, ◌∙◌}
use Rattle.dg_pool.specs.Graphs.{PoolState}
use Rattle.dg_pool.specs.Sweeps.{union_of}
use Rattle.dg_pool.proofs.GraphSizes.{union_is}
use Rattle.dg_pool.proofs.pool.Pool.union_len.Goals as goal

pub returns : goal.returns
returns c =
    let p : PoolState = record { rows = c.self.inside.cells; slots = c.self.inside.slots; sweep_index = c.self.inside.sweep_index } in
    c.count_needed.ensures ∙ sym (ap length (union_is p c.self.invariant.pool.slots c.self.invariant.pool.apart)) ∙ ap (λ (q : PoolState). length (union_of q)) c.self.view_is
