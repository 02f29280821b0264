use Rattle.std.proofs.Common.{subst}
use Rattle.dg_pool.specs.Graphs.{CellsStay, PoolState}
use Rattle.dg_pool.proofs.CurrentGraph.{has_still}
use Rattle.dg_pool.proofs.pool.Pool.apply_now.Goals as goal

pub returns-clause-cells : goal.returns-clause-cells
returns-clause-cells c =
    subst (λ (p : PoolState). CellsStay p.rows c.pass_all.new.cells) c.self.view_is
    (has_still c.self.inside.slots c.self.inside.cells c.pass_all.new.cells c.pass_all.ensures.kept)
