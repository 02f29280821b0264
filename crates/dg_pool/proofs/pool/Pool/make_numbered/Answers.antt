use Rattle.std.proofs.Common.{subst}
use Rattle.std.specs.Prelude.{OnOk}
use Rattle.dg_cells.specs.Rows.{CellsGrow, Reuses}
use Rattle.dg_pool.specs.Graphs.{PoolState, SameGraphs}
use Rattle.dg_pool.proofs.GrownCells.{grown_graphs, grown_pool}
use Rattle.dg_pool.proofs.pool.Pool.make_numbered.Goals as goal

pub invariant_of-self : goal.invariant_of-self
invariant_of-self c =
    let before : PoolState = record { rows = c.self.inside.cells; slots = c.self.inside.slots; sweep_index = c.self.inside.sweep_index } in
    grown_pool before c.make_rising.new.cells c.make_rising.ensures.grows c.self.inside.counts c.make_rising.ensures.apart c.self.invariant

pub returns-clause-graphs : goal.returns-clause-graphs
returns-clause-graphs c =
    let before : PoolState = record { rows = c.self.inside.cells; slots = c.self.inside.slots; sweep_index = c.self.inside.sweep_index } in
    subst (λ (p : PoolState). SameGraphs p (record { rows = c.make_rising.new.cells; slots = c.self.inside.slots; sweep_index = c.self.inside.sweep_index })) c.self.view_is
    (grown_graphs before c.make_rising.new.cells c.make_rising.ensures.grows)

pub returns-clause-grows : goal.returns-clause-grows
returns-clause-grows c = subst (λ (p : PoolState). CellsGrow p.rows c.make_rising.new.cells) c.self.view_is c.make_rising.ensures.grows

pub returns-clause-reuses : goal.returns-clause-reuses
returns-clause-reuses c =
    subst (λ (p : PoolState). OnOk c.make_rising.result (Reuses p.rows c.make_rising.new.cells)) c.self.view_is c.make_rising.ensures.reuses
