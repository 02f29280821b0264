use Rattle.std.proofs.Common.{◌≡◌, ℕ, ◌≤◌, ◌<◌, true, false, refl, length, sym, arith, subst, ap, ◌∙◌}
use Rattle.dg_cells.specs.Rows.{cell_at}
use Rattle.dg_pool.specs.Graphs.{PoolState, pair_at, slot_at}
use Rattle.dg_pool.specs.Sweeps.{is_swept, started, ended, LeavesCells, PassesAllCells}
use Rattle.dg_pool.proofs.GraphInvariant.{slots_mapped, started_live, started_idle, started_free, started_back, seen_started, cleared_before, more_pool, done_pool, swept_graphs, done_graphs, sweep_passes}
use Rattle.dg_pool.proofs.CountPreservation.{counted_still}
use Rattle.dg_pool.proofs.SweepCells.{below_end, passes_to_end}
use Rattle.dg_pool.proofs.pool.Pool.clean.Goals as goal
use Rattle.dg_pool.proofs.pool.Pool.clean.Goals.{After-sweep-sweep_index}

pub sweep-sweep_index-requires : goal.sweep-sweep_index-requires
sweep-sweep_index-requires c =
    let sweep_index = c.self.inside.sweep_index in
    slots_mapped (started sweep_index) (started_live sweep_index) (started_idle sweep_index) c.self.inside.slots c.start.new.slots c.start.ensures.count c.start.ensures.slots (started_free sweep_index) c.self.invariant.pool.slots

-- the slots that the sweep clears have no bit before its index
cleared : (c : After-sweep-sweep_index) (s : ℕ) → 1 ≤ s → is_swept (slot_at c.start.new.slots s) ≡ true → (n : ℕ) → n < c.self.inside.sweep_index → pair_at s (cell_at c.self.inside.cells n) ≡ (false, false)
cleared c s h e n k =
    cleared_before c.self.inside.cells c.self.inside.sweep_index s (slot_at c.self.inside.slots s) (c.self.invariant.pool.clean s h) (ap (λ t. is_swept t) (sym (c.start.ensures.slots s)) ∙ e) n k

pub invariant_of-self : goal.invariant_of-self
invariant_of-self c =
    let sweep_index = c.self.inside.sweep_index in
    let slots = c.self.inside.slots in
    let rows = c.self.inside.cells in
    let after = c.sweep-sweep_index.new.cells in
    let until = c.sweep-sweep_index.result in
    let a = (goal.at.invariant_of-self c).After-sweep-sweep_index in
    let old : PoolState = record { rows = rows; slots = slots; sweep_index = sweep_index } in
    let new : PoolState = record { rows = after; slots = c.start.new.slots; sweep_index = until } in
    record {
      pool = more_pool (started sweep_index) (started_live sweep_index) (started_idle sweep_index) (started_free sweep_index) (started_back sweep_index) (seen_started sweep_index) slots c.start.new.slots rows after sweep_index c.self.invariant.pool
          c.start.ensures.count c.start.ensures.slots sweep_index until c.sweep-sweep_index.ensures.swept c.facts.ensures (cleared a);
      counted = counted_still old new c.self.inside.counts
          (swept_graphs (started sweep_index) (started_live sweep_index) (started_idle sweep_index) (started_free sweep_index) (started_back sweep_index) (seen_started sweep_index) slots c.start.new.slots rows after sweep_index c.self.invariant.pool
          c.start.ensures.count c.start.ensures.slots sweep_index until c.sweep-sweep_index.ensures.swept c.facts.ensures (cleared a))
          c.self.invariant.counted;
    }

pub returns-then-sweep_index-len-clause-sweep : goal.returns-then-sweep_index-len-clause-sweep
returns-then-sweep_index-len-clause-sweep c =
    let sweep_index = c.self.inside.sweep_index in
    let slots = c.self.inside.slots in
    let rows = c.self.inside.cells in
    let after = c.sweep-sweep_index.new.cells in
    let to = c.sweep-sweep_index.result in
    let inside : to < length rows = let e = c.sweep-sweep_index.ensures.len in omega arith in
    subst (λ (old : PoolState). LeavesCells old (record { rows = after; slots = c.start.new.slots; sweep_index = to }) c.args.cells) c.self.view_is
    (record {
      passes = sweep_passes (started sweep_index) (started_live sweep_index) (started_idle sweep_index) (started_free sweep_index) (started_back sweep_index) (seen_started sweep_index) slots c.start.new.slots rows after sweep_index c.self.invariant.pool
          c.start.ensures.count c.start.ensures.slots sweep_index to c.sweep-sweep_index.ensures.swept c.facts.ensures
          (cleared (goal.at.returns-then-sweep_index-len-clause-sweep c).After-sweep-sweep_index)
          c.start.new.slots to;
      taken = let same = c.from.ensures in let m = c.sweep-sweep_index.ensures.more inside in omega arith;
      left = c.sweep-sweep_index.ensures.left inside;
      slots = c.start.ensures.slots;
    })

pub invariant_of-self-2 : goal.invariant_of-self-2
invariant_of-self-2 c =
    let sweep_index = c.self.inside.sweep_index in
    let slots = c.self.inside.slots in
    let rows = c.self.inside.cells in
    let after = c.sweep-sweep_index.new.cells in
    let until = c.sweep-sweep_index.result in
    let a = (goal.at.invariant_of-self-2 c).After-sweep-sweep_index in
    let old : PoolState = record { rows = rows; slots = slots; sweep_index = sweep_index } in
    let new : PoolState = record { rows = after; slots = c.end.new.slots; sweep_index = 0 } in
    record {
      pool = done_pool (started sweep_index) (started_live sweep_index) (started_idle sweep_index) (started_free sweep_index) (started_back sweep_index) (seen_started sweep_index) slots c.start.new.slots rows after sweep_index c.self.invariant.pool
          c.start.ensures.count c.start.ensures.slots sweep_index until c.sweep-sweep_index.ensures.swept c.facts.ensures (cleared a)
          c.end.new.slots c.end.ensures.count c.end.ensures.slots (omega arith);
      counted = counted_still old new c.self.inside.counts
          (done_graphs (started sweep_index) (started_live sweep_index) (started_idle sweep_index) (started_free sweep_index) (started_back sweep_index) (seen_started sweep_index) slots c.start.new.slots rows after sweep_index c.self.invariant.pool
          c.start.ensures.count c.start.ensures.slots sweep_index until c.sweep-sweep_index.ensures.swept c.facts.ensures (cleared a)
          c.end.new.slots c.end.ensures.count c.end.ensures.slots (omega arith))
          c.self.invariant.counted;
    }

pub returns-clause-sweep : goal.returns-clause-sweep
returns-clause-sweep c =
    let sweep_index = c.self.inside.sweep_index in
    let slots = c.self.inside.slots in
    let rows = c.self.inside.cells in
    let after = c.sweep-sweep_index.new.cells in
    let to = c.sweep-sweep_index.result in
    let old_state : PoolState = record { rows = rows; slots = slots; sweep_index = sweep_index } in
    let new_state : PoolState = record { rows = after; slots = c.end.new.slots; sweep_index = 0 } in
    let past : length rows ≤ to = let e = c.sweep-sweep_index.ensures.len in omega arith in
    subst (λ (old : PoolState). PassesAllCells old new_state c.args.cells) c.self.view_is
    (record {
      passes = passes_to_end old_state new_state sweep_index to c.sweep-sweep_index.ensures.len past
          (sweep_passes (started sweep_index) (started_live sweep_index) (started_idle sweep_index) (started_free sweep_index) (started_back sweep_index) (seen_started sweep_index) slots c.start.new.slots rows after sweep_index c.self.invariant.pool
          c.start.ensures.count c.start.ensures.slots sweep_index to c.sweep-sweep_index.ensures.swept c.facts.ensures
          (cleared (goal.at.returns-clause-sweep c).After-sweep-sweep_index)
          c.end.new.slots 0);
      most = let a = c.sweep-sweep_index.ensures.most in let b = below_end rows to past in omega arith;
      sweep_index = refl;
      slots = λ s. c.end.ensures.slots s ∙ ap ended (c.start.ensures.slots s);
    })
