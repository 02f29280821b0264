use Rattle.std.proofs.Common.{◌≤◌, ◌<◌, refl, length, arith, ◌⊎◌, inl, inr}
use Rattle.std.proofs.lemmas.Bool.{cases_lt}
use Rattle.dg_pool.specs.Sweeps.{begun}
use Rattle.dg_pool.proofs.GraphInvariant.{slots_mapped, begun_live, begun_idle, begun_back, seen_begun, done_pool, done_graphs, cells_are_union}
use Rattle.dg_pool.proofs.CountPreservation.{counted_still}
use Rattle.dg_pool.specs.Graphs.{PoolState}
use Rattle.dg_pool.proofs.SweepCells.{below_number}
use Rattle.dg_pool.proofs.pool.Pool.clean_all.Goals as goal
use Rattle.dg_pool.proofs.pool.Pool.clean_all.Goals.{After-sweep}

pub sweep-requires : goal.sweep-requires
sweep-requires c =
    slots_mapped begun begun_live begun_idle c.self.inside.slots c.begin.new.slots c.begin.ensures.count c.begin.ensures.slots refl c.self.invariant.pool.slots

-- no cell is left, since the count is greater than any number of cells
whole : (c : After-sweep) → length c.sweep.new.cells ≤ c.sweep.result
whole c = at (cases_lt c.sweep.result (length c.self.inside.cells))
  where
    at : (c.sweep.result < length c.self.inside.cells) ⊎ (length c.self.inside.cells ≤ c.sweep.result) → length c.sweep.new.cells ≤ c.sweep.result
    at (inl h) = let a = below_number c.self.inside.cells c.sweep.result in let b = c.sweep.ensures.more h in absurd (omega arith)
    at (inr h) = omega arith

pub invariant_of-self : goal.invariant_of-self
invariant_of-self c =
    let s = goal.at.invariant_of-self c in
    let old : PoolState = record { rows = c.self.inside.cells; slots = c.self.inside.slots; sweep_index = c.self.inside.sweep_index } in
    let new : PoolState = record { rows = c.sweep.new.cells; slots = c.end.new.slots; sweep_index = 0 } in
    record {
      pool = done_pool begun begun_live begun_idle refl begun_back seen_begun c.self.inside.slots c.begin.new.slots c.self.inside.cells c.sweep.new.cells c.self.inside.sweep_index c.self.invariant.pool
          c.begin.ensures.count c.begin.ensures.slots 0 c.sweep.result c.sweep.ensures.swept c.facts.ensures (λ s h e n k. absurd (omega arith))
          c.end.new.slots c.end.ensures.count c.end.ensures.slots (whole s.After-sweep);
      counted = counted_still old new c.self.inside.counts
          (done_graphs begun begun_live begun_idle refl begun_back seen_begun c.self.inside.slots c.begin.new.slots c.self.inside.cells c.sweep.new.cells c.self.inside.sweep_index c.self.invariant.pool
          c.begin.ensures.count c.begin.ensures.slots 0 c.sweep.result c.sweep.ensures.swept c.facts.ensures (λ s h e n k. absurd (omega arith))
          c.end.new.slots c.end.ensures.count c.end.ensures.slots (whole s.After-sweep))
          c.self.invariant.counted;
    }

pub returns-clause-cells : goal.returns-clause-cells
returns-clause-cells c =
    let s = goal.at.returns-clause-cells c in
    cells_are_union begun begun_live begun_idle refl begun_back seen_begun c.self.inside.slots c.begin.new.slots c.self.inside.cells c.sweep.new.cells c.self.inside.sweep_index c.self.invariant.pool
    c.begin.ensures.count c.begin.ensures.slots 0 c.sweep.result c.sweep.ensures.swept c.facts.ensures (λ s h e n k. absurd (omega arith))
    c.end.new.slots c.end.ensures.count c.end.ensures.slots (whole s.After-sweep) refl
