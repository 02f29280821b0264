use Rattle.std.proofs.Common.{sym, ap, subst, ◌∙◌}
use Rattle.std.specs.Option.{option_map}
use Rattle.dg_pool.specs.Graphs.{CellsStay, PoolState, graph_now, slot_graph}
use Rattle.dg_pool.specs.Changes.{CanChange, NamesNew, graph_after, numbers_of}
use Rattle.dg_pool.proofs.ChangeCells.{changeable, written_pool}
use Rattle.dg_pool.proofs.CurrentGraph.{has_alike}
use Rattle.dg_pool.proofs.pool.Pool.write.Goals as goal

pub write_delta-requires-clause-can : goal.write_delta-requires-clause-can
write_delta-requires-clause-can c =
    let before : PoolState = record { rows = c.self.inside.cells; slots = c.self.inside.slots; sweep_index = c.self.inside.sweep_index } in
    changeable before (numbers_of c.args.slots.now) c.self.invariant.pool.slots
    (subst (CanChange (numbers_of c.args.slots.now)) (sym c.self.view_is) c.requires.can)

pub write_delta-requires-clause-counted : goal.write_delta-requires-clause-counted
write_delta-requires-clause-counted c = let k = c.self.invariant.counted in record { len = k.len; now = k.now; slots = k.slots }

pub invariant_of-self : goal.invariant_of-self
invariant_of-self c =
    let before : PoolState = record { rows = c.self.inside.cells; slots = c.self.inside.slots; sweep_index = c.self.inside.sweep_index } in
    let numbers = numbers_of c.args.slots.now in
    let w = c.write_delta.ensures in
    let can = changeable before numbers c.self.invariant.pool.slots (subst (CanChange numbers) (sym c.self.view_is) c.requires.can) in
    record {
      pool = written_pool before numbers c.args.delta.now c.write_delta.new.cells can w.writes w.apart c.self.invariant.pool;
      counted = record { len = w.counted.len; now = w.counted.now; slots = w.counted.slots };
    }

pub returns-clause-changes : goal.returns-clause-changes
returns-clause-changes c =
    let all = c.write_delta.ensures.writes.graphs in
    record {
      now = all.now ∙ ap graph_now c.self.view_is;
      changed = λ t k. all.changed t k ∙ ap (λ (p : PoolState). option_map (graph_after c.args.delta.now) (slot_graph p t)) c.self.view_is;
      others = λ t k. all.others t k ∙ ap (λ (p : PoolState). slot_graph p t) c.self.view_is;
    }

pub returns-clause-explicit : goal.returns-clause-explicit
returns-clause-explicit c =
    subst (λ (p : PoolState). NamesNew c.args.delta.now p.rows c.write_delta.new.cells) c.self.view_is c.write_delta.ensures.writes.explicit

pub returns-clause-cells : goal.returns-clause-cells
returns-clause-cells c =
    subst (λ (p : PoolState). CellsStay p.rows c.write_delta.new.cells) c.self.view_is
    (has_alike c.self.inside.cells c.write_delta.new.cells c.write_delta.ensures.writes.elements)
