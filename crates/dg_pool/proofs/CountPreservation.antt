-- What a call leaves of the counts that the pool keeps.
use Rattle.std.proofs.Common.{arith, ◌≡◌, ℕ, ◌<◌, ◌≤◌, true, List, Option, Some, None, IsSome, set, refl, sym, ap, ◌∙◌, ◌⊎◌, inl, inr}
use Rattle.std.proofs.lemmas.Bool.{cases_eq}
use Rattle.std.proofs.lemmas.List.{get_or-set_same, get_or-set_other, length-set}
use Rattle.dg_cells.specs.Rows.{Row}
use Rattle.dg_query.specs.declared.answers.Counts.{Counts}
use Rattle.dg_pool.specs.declared.slots.SlotState.{SlotState}
use Rattle.dg_pool.specs.declared.slots.SlotState.TheVariants as state
use Rattle.dg_pool.specs.Graphs.{PoolState, SlotGraph, SameGraphs, is_live, graph_as, slot_graph, graph_now}
use Rattle.dg_pool.specs.Sweeps.{members_as}
use Rattle.dg_query.specs.Queries.{counts_of}
use Rattle.dg_pool.specs.Counts.{counts_at, no_elements, AreCountsOf}

-- ---- live slots

pub graph_live : (rows : List (Option Row)) (s : ℕ) (slot : SlotState) → IsSome (graph_as rows s slot) → is_live slot ≡ true
graph_live rows s state.Free h = cc
graph_live rows s (state.Released swept) h = cc
graph_live rows s (state.Live b cols) h = refl

-- ---- counts

pub counted_still : (old new : PoolState) (counts : List Counts) → SameGraphs old new → AreCountsOf old counts → AreCountsOf new counts
counted_still old new counts same k = record {
  len = k.len;
  now = k.now ∙ ap counts_of (sym same.now);
  slots = λ s g e. k.slots s g (sym (same.slots s) ∙ e);
}

-- a slot is no longer live
pub counted_released : (old new : PoolState) (counts : List Counts) (t : ℕ) → graph_now new ≡ graph_now old → ((s : ℕ) → (s ≡ t → ⊥) → slot_graph new s ≡ slot_graph old s) → slot_graph new t ≡ None → AreCountsOf old counts → AreCountsOf new counts
counted_released old new counts t now others gone k = record {
  len = k.len;
  now = k.now ∙ ap counts_of (sym now);
  slots = λ s g e. at s g e (cases_eq s t);
}
  where
    at : (s : ℕ) (g : SlotGraph) → slot_graph new s ≡ Some g → ((s ≡ t) ⊎ (s ≡ t → ⊥)) → counts_at counts s ≡ counts_of g.members
    at s g e (inl is) = let none : None ≡ Some g = sym (ap (slot_graph new) is ∙ gone) ∙ e in cc
    at s g e (inr other) = k.slots s g (sym (others s other) ∙ e)

-- a slot has a graph
pub counted_attached : (old new : PoolState) (counts : List Counts) (t : ℕ) (c : Counts) (h : SlotGraph) → 1 ≤ t → t < 128 → graph_now new ≡ graph_now old → ((s : ℕ) → (s ≡ t → ⊥) → slot_graph new s ≡ slot_graph old s) → slot_graph new t ≡ Some h → c ≡ counts_of h.members → AreCountsOf old counts → AreCountsOf new (set counts t c)
counted_attached old new counts t c h low high now others there is k = record {
  len = length-set counts t c ∙ k.len;
  now = get_or-set_other counts t 0 c no_elements (λ z. omega arith) ∙ k.now ∙ ap counts_of (sym now);
  slots = λ s g e. at s g e (cases_eq s t);
}
  where
    at : (s : ℕ) (g : SlotGraph) → slot_graph new s ≡ Some g → ((s ≡ t) ⊎ (s ≡ t → ⊥)) → counts_at (set counts t c) s ≡ counts_of g.members
    at s g e (inl same) =
        let one : Some h ≡ Some g = sym there ∙ ap (slot_graph new) (sym same) ∙ e in
        let tied : h ≡ g = cc in
        let len = k.len in
        ap (counts_at (set counts t c)) same ∙ get_or-set_same counts t c no_elements (omega arith) ∙ is ∙ ap (λ (z : SlotGraph). counts_of z.members) tied
    at s g e (inr other) = get_or-set_other counts t s c no_elements other ∙ k.slots s g (sym (others s other) ∙ e)

-- the counts of a live slot
pub counts_seen : (p : PoolState) (counts : List Counts) (s : ℕ) → AreCountsOf p counts → IsSome (slot_graph p s) → counts_at counts s ≡ counts_of (members_as (slot_graph p s))
counts_seen p counts s k live = at (slot_graph p s) refl live
  where
    at : (g : Option SlotGraph) → slot_graph p s ≡ g → IsSome g → counts_at counts s ≡ counts_of (members_as (slot_graph p s))
    at None e h = cc
    at (Some g) e h = k.slots s g e ∙ ap (λ z. counts_of (members_as z)) (sym e)
