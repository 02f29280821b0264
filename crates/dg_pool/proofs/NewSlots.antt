-- A free slot becomes live, with the graph of its base.
use Rattle.std.proofs.Common.{arith, ◌≡◌, ℕ, ◌<◌, ◌≤◌, Bool, true, false, eqb, ◌||◌, ◌&&◌, List, [], ◌∷◌, Option, Some, None, is_some, set, refl, sym, ap, ◌∙◌, subst, ◌⊎◌, inl, inr}
use Rattle.std.proofs.lemmas.Bool.{cases_eq, true≢false, eqb-true}
use Rattle.std.proofs.lemmas.List.{get_or-set_same, get_or-set_other, length-set}
use Rattle.dg_graph.specs.declared.element.Element.{Element}
use Rattle.dg_graph.specs.declared.element.Columns.{Columns}
use Rattle.dg_graph.specs.Elements.{IsSet, has, asks, column_of, shown}
use Rattle.dg_graph.proofs.Sets.{same_members, has-filter, IsSet-filter}
use Rattle.dg_delta.specs.Deltas.{is_in_after}
use Rattle.dg_cells.specs.Rows.{Row, cell_at, is_current, Lacks}
use Rattle.dg_query.specs.declared.answers.Counts.{Counts}
use Rattle.dg_query.specs.Queries.{counts_of}
use Rattle.dg_pool.specs.declared.slots.Base.{Base}
use Rattle.dg_pool.specs.declared.slots.Base.TheVariants as base
use Rattle.dg_pool.specs.declared.slots.Slot.{Slot}
use Rattle.dg_pool.specs.declared.slots.SlotState.{SlotState}
use Rattle.dg_pool.specs.declared.slots.SlotState.TheVariants as state
use Rattle.dg_pool.specs.Graphs.{PoolState, SlotGraph, SameGraphs, AreSlots, IsBased, IsBaseFor, IsClean, IsPool, slot_at, pair_at, is_live, is_listed, slot_says, pair_says, in_base, in_slot, picked, graph_as, slot_graph}
use Rattle.dg_pool.specs.Sweeps.{members_as}
use Rattle.dg_pool.specs.Slots.{base_members, BaseFits, IsBaseWith}
use Rattle.dg_pool.specs.Counts.{IsCountedPool, AreCountsOf, base_counts, counts_at, counts_shown}
use Rattle.dg_pool.specs.Changes.{CanChange, NoneRestsOn}
use Rattle.dg_pool.proofs.GraphSets.{picked_set, picked_decides, picked_nothing}
use Rattle.dg_pool.proofs.GraphCounts.{counts-shown}
use Rattle.dg_pool.proofs.GraphInvariant.{row_or_none, live_within}
use Rattle.dg_pool.proofs.SweepUnions.{IsSet-members, lacks-members}
use Rattle.dg_pool.proofs.CountPreservation.{counted_attached, counts_seen}
use Rattle.dg_pool.proofs.ChangeMasks.{base_live, based_on_live}

-- ---- bases

pub base_same : (old new : PoolState) → SameGraphs old new → (z : Base) → base_members new z ≡ base_members old z
base_same old new same base.Nothing = refl
base_same old new same base.Now = same.now
base_same old new same (base.Slot o) = ap members_as (same.slots o.0)

pub IsSet-base : (p : PoolState) (z : Base) → IsSet (base_members p z)
IsSet-base p base.Nothing = tt
IsSet-base p base.Now = picked_set is_current p.rows
IsSet-base p (base.Slot o) = IsSet-members p.rows o.0 (slot_at p.slots o.0)

fits_base : (rows : List (Option Row)) (cols : Columns) (o : ℕ) (slot : SlotState) → IsBaseWith cols (graph_as rows o slot) → IsBaseFor cols slot
fits_base rows cols o state.Free h = absurd h
fits_base rows cols o (state.Released swept) h = absurd h
fits_base rows cols o (state.Live base.Nothing all) h = h.1
fits_base rows cols o (state.Live base.Now all) h = cc (h.0)
fits_base rows cols o (state.Live (base.Slot z) all) h = cc (h.0)

pub base_within : (p : PoolState) (cols : Columns) → AreSlots p.slots → (z : Base) → BaseFits p z cols → (o : Slot) → z ≡ base.Slot o → o.0 ≤ 127
base_within p cols fit z h o e =
    let live = base_live cols (slot_at p.slots o.0) (fits_base p.rows cols o.0 (slot_at p.slots o.0) (subst (λ (y : Base). BaseFits p y cols) e h)) in
    let high = live_within p.slots fit.count o.0 live in
    omega arith

-- the counts that are kept of a base are those of its members
base_counts_are : (p : PoolState) (counts : List Counts) (cols : Columns) → AreCountsOf p counts → (z : Base) → BaseFits p z cols → base_counts counts z ≡ counts_of (base_members p z)
base_counts_are p counts cols k base.Nothing h = refl
base_counts_are p counts cols k base.Now h = k.now
base_counts_are p counts cols k (base.Slot o) h = at (slot_graph p o.0) refl h
  where
    at : (g : Option SlotGraph) → slot_graph p o.0 ≡ g → IsBaseWith cols g → counts_at counts o.0 ≡ counts_of (members_as (slot_graph p o.0))
    at None e h = absurd h
    at (Some g) e h = counts_seen p counts o.0 k (ap is_some e)

-- the base of a graph is that of its slot
graph_base : (rows : List (Option Row)) (s : ℕ) (slot : SlotState) (g : SlotGraph) (o : Slot) → graph_as rows s slot ≡ Some g → g.base ≡ base.Slot o → (all : Columns) × (slot ≡ state.Live (base.Slot o) all)
graph_base rows s state.Free g o e f = let none : None ≡ Some g = e in cc
graph_base rows s (state.Released swept) g o e f = let none : None ≡ Some g = e in cc
graph_base rows s (state.Live z all) g o e f =
    let graph : SlotGraph = record { base = z; cols = all; members = picked (in_slot s z all) rows } in
    let one : Some graph ≡ Some g = e in
    let tied : graph ≡ g = cc in
    (all, ap (λ (y : Base). state.Live y all) (ap (λ (h : SlotGraph). h.base) tied ∙ f))

-- ---- the slot

module _ (p : PoolState) (pool : IsPool p) (s : ℕ) (low : 1 ≤ s) (high : s < 128) (free : slot_at p.slots s ≡ state.Free) (b : Base) (cols : Columns) (fits : BaseFits p b cols) where
  abbrev under : List Element
  under = base_members p b

  abbrev after : List SlotState
  after = set p.slots s (state.Live b cols)

  abbrev live : PoolState
  live = record { rows = p.rows; slots = after; sweep_index = p.sweep_index }

  abbrev graph : SlotGraph
  graph = record { base = b; cols = cols; members = shown under cols }

  here : slot_at after s ≡ state.Live b cols
  here = let count = pool.slots.count in get_or-set_same p.slots s (state.Live b cols) state.Free (omega arith)

  pub past : (u : ℕ) → (u ≡ s → ⊥) → slot_at after u ≡ slot_at p.slots u
  past u other = get_or-set_other p.slots s u (state.Live b cols) state.Free other

  not_free : (o : ℕ) → is_live (slot_at p.slots o) ≡ true → o ≡ s → ⊥
  not_free o is e = true≢false (sym is ∙ ap (λ n. is_live (slot_at p.slots n)) e ∙ ap is_live free)

  pub no_bits : (n : ℕ) → pair_at s (cell_at p.rows n) ≡ (false, false)
  no_bits = subst (IsClean p.rows p.sweep_index s) free (pool.clean s low)

  -- ---- its graph

  -- of an element that has a cell, the base has what the cell says, in the columns asked for
  module _ (n : ℕ) (r : Row) (e : cell_at p.rows n ≡ Some r) (a : asks cols (column_of r.element) ≡ true) where
    slot_has : (o : ℕ) (slot : SlotState) → IsBaseWith cols (graph_as p.rows o slot) → is_in_after (slot_says o r) false ≡ has (members_as (graph_as p.rows o slot)) r.element
    slot_has o state.Free h = absurd h
    slot_has o (state.Released swept) h = absurd h
    slot_has o (state.Live z all) h =
        sym (ap (λ t. t && is_in_after (slot_says o r) false) (h.1 r.element a))
        ∙ (λ i. asks all (column_of r.element) && is_in_after (slot_says o r) (in_base (sym h.0 i) r))
        ∙ sym (picked_decides (in_slot o z all) p.rows r.element n r pool.apart e refl)

    base_has : (z : Base) → BaseFits p z cols → in_base z r ≡ has (base_members p z) r.element
    base_has base.Nothing h = refl
    base_has base.Now h = sym (picked_decides is_current p.rows r.element n r pool.apart e refl)
    base_has (base.Slot o) h = slot_has o.0 (slot_at p.slots o.0) h

  base_lacks : (x : Element) → Lacks p.rows x → (z : Base) → has (base_members p z) x ≡ false
  base_lacks x lacks base.Nothing = refl
  base_lacks x lacks base.Now = picked_nothing is_current p.rows x lacks
  base_lacks x lacks (base.Slot o) = lacks-members p.rows x lacks o.0 (slot_at p.slots o.0)

  members : picked (in_slot s b cols) p.rows ≡ shown under cols
  members =
      same_members (picked (in_slot s b cols) p.rows) (shown under cols) (picked_set (in_slot s b cols) p.rows)
      (IsSet-filter (λ y. asks cols (column_of y)) under (IsSet-base p b))
      (λ x. at x (row_or_none p.rows x) ∙ sym (has-filter (λ y. asks cols (column_of y)) under x))
    where
      none : (t : Bool) → (t && false) ≡ false
      none true = refl
      none false = refl

      of_row : (n : ℕ) (r : Row) → cell_at p.rows n ≡ Some r → (t : Bool) → asks cols (column_of r.element) ≡ t → (asks cols (column_of r.element) && in_base b r) ≡ (asks cols (column_of r.element) && has under r.element)
      of_row n r e true a = ap (λ t. asks cols (column_of r.element) && t) (base_has n r e a b fits)
      of_row n r e false a = ap (λ t. t && in_base b r) a ∙ sym (ap (λ t. t && has under r.element) a)

      at : (x : Element) → ((n : ℕ) × (r : Row) × (cell_at p.rows n ≡ Some r) × (r.element ≡ x)) ⊎ Lacks p.rows x → has (picked (in_slot s b cols) p.rows) x ≡ (asks cols (column_of x) && has under x)
      at x (inl f) =
          let r = f.1 in
          picked_decides (in_slot s b cols) p.rows x f.0 r pool.apart f.2 f.3
          ∙ ap (λ (w : Bool × Bool). asks cols (column_of r.element) && is_in_after (pair_says w) (in_base b r)) (sym (ap (pair_at s) f.2) ∙ no_bits f.0)
          ∙ of_row f.0 r f.2 (asks cols (column_of r.element)) refl
          ∙ ap (λ y. asks cols (column_of y) && has under y) f.3
      at x (inr lacks) =
          picked_nothing (in_slot s b cols) p.rows x lacks
          ∙ sym (ap (λ t. asks cols (column_of x) && t) (base_lacks x lacks b) ∙ none (asks cols (column_of x)))

  pub live_slot : slot_graph live s ≡ Some graph
  live_slot = ap (graph_as p.rows s) here ∙ ap (λ m. Some (record { base = b; cols = cols; members = m })) members

  pub live_others : (u : ℕ) → (u ≡ s → ⊥) → slot_graph live u ≡ slot_graph p u
  live_others u other = ap (graph_as p.rows u) (past u other)

  -- ---- what a pool keeps true

  still : (all : Columns) (o : ℕ) → IsBaseFor all (slot_at p.slots o) → IsBaseFor all (slot_at after o)
  still all o h = subst (IsBaseFor all) (sym (past o (not_free o (base_live all (slot_at p.slots o) h)))) h

  based_still : (slot : SlotState) → IsBased p.slots slot → IsBased after slot
  based_still state.Free h = tt
  based_still (state.Released swept) h = tt
  based_still (state.Live base.Nothing all) h = tt
  based_still (state.Live base.Now all) h = tt
  based_still (state.Live (base.Slot o) all) h = still all o.0 h

  new_based : (z : Base) → BaseFits p z cols → IsBased after (state.Live z cols)
  new_based base.Nothing h = tt
  new_based base.Now h = tt
  new_based (base.Slot o) h = still cols o.0 (fits_base p.rows cols o.0 (slot_at p.slots o.0) h)

  live_pool : IsPool live
  live_pool = record {
    slots = record {
      count = length-set p.slots s (state.Live b cols) ∙ pool.slots.count;
      first = past 0 (λ e. omega arith) ∙ pool.slots.first;
      bases = λ u h. based u h (cases_eq u s);
    };
    apart = pool.apart;
    clean = λ u h. clean u h (cases_eq u s);
  }
    where
      based : (u : ℕ) → 1 ≤ u → ((u ≡ s) ⊎ (u ≡ s → ⊥)) → IsBased after (slot_at after u)
      based u h (inl e) = subst (IsBased after) (sym (ap (slot_at after) e ∙ here)) (new_based b fits)
      based u h (inr other) = subst (IsBased after) (sym (past u other)) (based_still (slot_at p.slots u) (pool.slots.bases u h))

      clean : (u : ℕ) → 1 ≤ u → ((u ≡ s) ⊎ (u ≡ s → ⊥)) → IsClean p.rows p.sweep_index u (slot_at after u)
      clean u h (inl e) = subst (IsClean p.rows p.sweep_index u) (sym (ap (slot_at after) e ∙ here)) tt
      clean u h (inr other) = subst (IsClean p.rows p.sweep_index u) (sym (past u other)) (pool.clean u h)

  pub live_counted : (counts : List Counts) → AreCountsOf p counts → IsCountedPool live (set counts s (counts_shown (base_counts counts b) cols))
  live_counted counts k = record {
    pool = live_pool;
    counted = counted_attached p live counts s (counts_shown (base_counts counts b) cols) graph low high refl live_others live_slot
        (ap (λ (c : Counts). counts_shown c cols) (base_counts_are p counts cols k b fits) ∙ counts-shown under cols) k;
  }

  -- ---- it can change

  unused : NoneRestsOn live s
  unused u g o e f is = at (graph_base p.rows u (slot_at after u) g o e f) (cases_eq u s)
    where
      at : (all : Columns) × (slot_at after u ≡ state.Live (base.Slot o) all) → ((u ≡ s) ⊎ (u ≡ s → ⊥)) → ⊥
      at h (inl same) =
          let one : state.Live b cols ≡ state.Live (base.Slot o) h.0 = sym (ap (slot_at after) same ∙ here) ∙ h.1 in
          let tied : b ≡ base.Slot o = cc in
          not_free o.0 (base_live cols (slot_at p.slots o.0) (fits_base p.rows cols o.0 (slot_at p.slots o.0) (subst (λ (y : Base). BaseFits p y cols) tied fits))) is
      at h (inr other) = not_free o.0 (based_on_live p.slots pool.slots u o h.0 (sym (past u other) ∙ h.1)) is

  one_listed : (t : ℕ) → is_listed (s ∷ []) t ≡ true → s ≡ t
  one_listed t k = eqb-true s t (sym (or_false (eqb s t)) ∙ k)
    where
      or_false : (a : Bool) → (a || false) ≡ a
      or_false true = refl
      or_false false = refl

  pub live_can : CanChange (s ∷ []) live
  live_can = record {
    live = λ t k. subst (λ u. is_some (slot_graph live u) ≡ true) (one_listed t k) (ap is_some live_slot);
    apart = (refl, tt);
    unused = λ t k. subst (NoneRestsOn live) (one_listed t k) unused;
  }
