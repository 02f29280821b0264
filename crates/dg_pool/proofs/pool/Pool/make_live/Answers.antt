use Rattle.std.proofs.Common.{◌≡◌, true, Some, sym, ap, subst, ◌∙◌, set}
use Rattle.dg_graph.specs.Elements.{shown}
use Rattle.dg_cells.specs.Rows.{cell_at}
use Rattle.dg_query.specs.declared.answers.Counts.{Counts}
use Rattle.dg_pool.specs.declared.slots.SlotState.TheVariants as state
use Rattle.dg_pool.specs.Graphs.{PoolState, slot_at, pair_at, slot_graph}
use Rattle.dg_pool.specs.Slots.{BaseFits, base_members, is_free}
use Rattle.dg_pool.specs.Counts.{IsCountedPool, counts_shown}
use Rattle.dg_pool.proofs.GraphInvariant.{free_is}
use Rattle.dg_pool.proofs.NewSlots.{base_within, no_bits, past, live_slot, live_others, live_counted, live_can}
use Rattle.dg_pool.proofs.pool.Pool.make_live.Goals as goal
use Rattle.dg_pool.proofs.pool.Pool.make_live.Goals.{After-counts_shown}

pub base_counts-was-requires : goal.base_counts-was-requires
base_counts-was-requires c =
    let before : PoolState = record { rows = c.self.inside.cells; slots = c.self.inside.slots; sweep_index = c.self.inside.sweep_index } in
    base_within before c.args.cols c.self.invariant.pool.slots c.args.base (subst (λ (p : PoolState). BaseFits p c.args.base c.args.cols) (sym c.self.view_is) c.requires.base)

-- the state before
abbrev before : After-counts_shown → PoolState
before c = record { rows = c.self.inside.cells; slots = c.self.inside.slots; sweep_index = c.self.inside.sweep_index }

free : (c : After-counts_shown) → slot_at c.self.inside.slots c.args.slot ≡ state.Free
free c = free_is (slot_at c.self.inside.slots c.args.slot) (subst (λ (p : PoolState). is_free (slot_at p.slots c.args.slot) ≡ true) (sym c.self.view_is) c.requires.free.free)

fits : (c : After-counts_shown) → BaseFits (before c) c.args.base c.args.cols
fits c = subst (λ (p : PoolState). BaseFits p c.args.base c.args.cols) (sym c.self.view_is) c.requires.base

pub invariant_of-self : goal.invariant_of-self
invariant_of-self c =
    let a = (goal.at.invariant_of-self c).After-counts_shown in
    subst (λ (n : Counts). IsCountedPool (record { rows = c.self.inside.cells; slots = set c.self.inside.slots c.args.slot (state.Live c.args.base c.args.cols); sweep_index = c.self.inside.sweep_index }) (set c.self.inside.counts c.args.slot n))
    (sym (c.counts_shown.ensures ∙ ap (λ (n : Counts). counts_shown n c.args.cols) c.base_counts-was.ensures))
    (live_counted (before a) c.self.invariant.pool c.args.slot c.requires.free.low c.requires.free.within (free a) c.args.base c.args.cols (fits a) c.self.inside.counts c.self.invariant.counted)

pub returns-clause-slot : goal.returns-clause-slot
returns-clause-slot c =
    let a = (goal.at.returns-clause-slot c).After-counts_shown in
    live_slot (before a) c.self.invariant.pool c.args.slot c.requires.free.low c.requires.free.within (free a) c.args.base c.args.cols (fits a)
    ∙ ap (λ (p : PoolState). Some (record { base = c.args.base; cols = c.args.cols; members = shown (base_members p c.args.base) c.args.cols })) c.self.view_is

pub returns-clause-others : goal.returns-clause-others
returns-clause-others c = λ t other.
    let a = (goal.at.returns-clause-others c).After-counts_shown in
    live_others (before a) c.self.invariant.pool c.args.slot c.requires.free.low c.requires.free.within (free a) c.args.base c.args.cols (fits a) t other ∙ ap (λ (p : PoolState). slot_graph p t) c.self.view_is

pub returns-clause-states : goal.returns-clause-states
returns-clause-states c = λ t other.
    let a = (goal.at.returns-clause-states c).After-counts_shown in
    past (before a) c.self.invariant.pool c.args.slot c.requires.free.low c.requires.free.within (free a) c.args.base c.args.cols (fits a) t other ∙ ap (λ (p : PoolState). slot_at p.slots t) c.self.view_is

pub returns-clause-bits : goal.returns-clause-bits
returns-clause-bits c = λ n.
    let a = (goal.at.returns-clause-bits c).After-counts_shown in
    ap (λ (p : PoolState). pair_at c.args.slot (cell_at p.rows n)) (sym c.self.view_is)
    ∙ no_bits (before a) c.self.invariant.pool c.args.slot c.requires.free.low c.requires.free.within (free a) c.args.base c.args.cols (fits a) n

pub returns-clause-can : goal.returns-clause-can
returns-clause-can c =
    let a = (goal.at.returns-clause-can c).After-counts_shown in
    live_can (before a) c.self.invariant.pool c.args.slot c.requires.free.low c.requires.free.within (free a) c.args.base c.args.cols (fits a)
