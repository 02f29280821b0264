use Rattle.std.proofs.Common.{subst}
use Rattle.dg_cells.specs.Rows.{Reuses}
use Rattle.dg_pool.specs.Graphs.{CellsStay, PoolState, SameGraphs}
use Rattle.dg_pool.proofs.GrownCells.{grown_graphs, grown_pool, has_grown}
use Rattle.dg_pool.proofs.pool.Pool.make_room.Goals as goal

pub invariant_of-self : goal.invariant_of-self
invariant_of-self c =
    let before : PoolState = record { rows = c.self.inside.cells; slots = c.self.inside.slots; sweep_index = c.self.inside.sweep_index } in
    grown_pool before c.add_by_all-made.new.cells c.add_by_all-made.ensures.grows c.self.inside.counts c.facts.ensures c.self.invariant

pub returns-clause-graphs : goal.returns-clause-graphs
returns-clause-graphs c =
    let before : PoolState = record { rows = c.self.inside.cells; slots = c.self.inside.slots; sweep_index = c.self.inside.sweep_index } in
    subst (λ (p : PoolState). SameGraphs p (record { rows = c.add_by_all-made.new.cells; slots = c.self.inside.slots; sweep_index = c.self.inside.sweep_index })) c.self.view_is
    (grown_graphs before c.add_by_all-made.new.cells c.add_by_all-made.ensures.grows)

pub returns-clause-reuses : goal.returns-clause-reuses
returns-clause-reuses c = subst (λ (p : PoolState). Reuses p.rows c.add_by_all-made.new.cells) c.self.view_is c.add_by_all-made.ensures.reuses

pub returns-clause-cells : goal.returns-clause-cells
returns-clause-cells c =
    subst (λ (p : PoolState). CellsStay p.rows c.add_by_all-made.new.cells) c.self.view_is
    (has_grown c.self.inside.cells c.add_by_all-made.new.cells c.add_by_all-made.ensures.grows)
