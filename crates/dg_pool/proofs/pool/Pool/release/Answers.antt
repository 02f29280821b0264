use Rattle.std.proofs.Common.{arith, ◌≡◌, true, false, subst, sym, ap, set, refl}
use Rattle.std.proofs.lemmas.List.{get_or-set_same, get_or-set_other}
use Rattle.dg_pool.specs.declared.slots.SlotState.TheVariants as state
use Rattle.dg_pool.specs.Graphs.{slot_at, is_live, graph_as, PoolState}
use Rattle.dg_pool.specs.Slots.{IsLive}
use Rattle.dg_pool.proofs.GraphInvariant.{released_pool, live_from_one, live_within}
use Rattle.dg_pool.proofs.CountPreservation.{graph_live, counted_released}
use Rattle.dg_pool.proofs.pool.Pool.release.Goals as goal

pub invariant_of-self : goal.invariant_of-self
invariant_of-self c =
    let rows = c.self.inside.cells in
    let slots = c.self.inside.slots in
    let sweep_index = c.self.inside.sweep_index in
    let t = c.args.slot.0 in
    let fit = c.self.invariant.pool.slots in
    let len = fit.count in
    let live : is_live (slot_at slots t) ≡ true = graph_live rows t (slot_at slots t) (subst (λ (p : PoolState). IsLive p c.args.slot) (sym c.self.view_is) c.requires) in
    let within = live_within slots len t live in
    record {
      pool = released_pool slots fit t within (live_from_one slots fit t live) c.in_default.ensures.none rows sweep_index c.self.invariant.pool;
      counted = counted_released (record { rows = rows; slots = slots; sweep_index = sweep_index }) (record { rows = rows; slots = set slots t (state.Released false); sweep_index = sweep_index }) c.self.inside.counts t
          refl
          (λ s other. ap (graph_as rows s) (get_or-set_other slots t s (state.Released false) state.Free other))
          (ap (graph_as rows t) (get_or-set_same slots t (state.Released false) state.Free (omega arith)))
          c.self.invariant.counted;
    }
