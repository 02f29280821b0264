-- What is held where there is a pool, and where there is none.
use Rattle.std.proofs.Common.{◌≡◌, ◌∙◌, false, ℕ, List, [], ◌∷◌, Option, Some, None, length, refl, sym, ap, subst}
use Rattle.std.specs.Prelude.{Box, IfSome, MatchOption, is_some}
use Rattle.std.proofs.lemmas.Option.{none-some}
use Rattle.std.specs.List.{All, AllZip}
use Rattle.dg_append.specs.LiveHistories.{IsLiveHistory}
use Rattle.dg_append.specs.Overlays.{IsOverlayOf, SameSlots, bare, pool_in, pool_of}
use Rattle.dg_append.specs.declared.live.Live.{Live}
use Rattle.dg_ask.proofs.KeptAdjacencies.{graphs_same, kept_on}
use Rattle.dg_ask.specs.HeldIndex.{HasNodes}
use Rattle.dg_batch.specs.Held.{IsHeld}
use Rattle.dg_batch.specs.declared.held.Held.{Held}
use Rattle.dg_graph.specs.declared.element.Element.{Element}
use Rattle.dg_handles.specs.Handles.{HandlesState, IsGraphOn, IsSweptWhole, IsTied, SlotHolds, TieIsKept, UnionOfHandles, graph_among, graphs_without, slot_graphs}
use Rattle.dg_machine.specs.declared.stands.Stands.{Stands}
use Rattle.dg_machine.specs.MachineState.{overlay_on, stands_at, union_of_sets, without_handle}
use Rattle.dg_pool.specs.Graphs.{PoolState, graph_now, slot_graph}
use Rattle.dg_pool.specs.Sweeps.{cells_of}
use Rattle.dg_retrieval.specs.NamesThere.{NamesAreThere}
use Rattle.dg_stored.specs.declared.stored_history.StoredHistory.{StoredHistory}
use Rattle.dg_stored.specs.StoredHistory.{index_opening}

-- ---- without a pool

-- no slot is live, and a handle has its own
none_held : (h : HandlesState) (stands : Stands) → SlotHolds h stands None → ⊥
none_held h stands held = by (overlay_on stands.what) held
  where
    by : (on : Option (Option ℕ)) → IsGraphOn h stands.cols on None → ⊥
    by (Some on) graph = graph
    by None graph = graph

-- so no handle lives
no_handles : (h : HandlesState) → IsTied bare h → (h.table ≡ []) × (h.slots ≡ [])
no_handles h tied = by h.table h.slots tied.held
  where
    by : (table : List (ℕ × Stands)) (slots : List ℕ) → AllZip (λ (entry : ℕ × Stands) (s : ℕ). SlotHolds h entry.1 (slot_graph bare s)) table slots → (table ≡ []) × (slots ≡ [])
    by [] [] zip = (refl, refl)
    by [] (s ∷ slots) zip = absurd zip
    by (e ∷ table) [] zip = absurd zip
    by (e ∷ table) (s ∷ slots) zip = absurd (none_held h e.1 zip.0)

-- so it is with this pool
module _ {Z : Type 0} (h : HandlesState) (pool : Option (Box PoolState Z)) (none : pool ≡ None) (tied : IsTied (pool_of pool) h) where
  none_left : (h.table ≡ []) × (h.slots ≡ [])
  none_left = no_handles h (subst (λ (o : Option (Box PoolState Z)). IsTied (pool_of o) h) none tied)

  pub none_found : (handle : ℕ) → graph_among handle h.table (slot_graphs (pool_of pool) h.slots) ≡ None
  none_found handle = ap (λ (table : List (ℕ × Stands)). graph_among handle table (slot_graphs (pool_of pool) h.slots)) none_left.0

  pub none_stands : (handle : ℕ) → is_some (stands_at handle h.table) ≡ false
  none_stands handle = ap (λ (table : List (ℕ × Stands)). is_some (stands_at handle table)) none_left.0

  pub none_given_up : (handle : ℕ) → h.table ≡ without_handle handle h.table
  none_given_up handle = none_left.0 ∙ ap (without_handle handle) (sym none_left.0)

  pub none_lost : (handle : ℕ) → slot_graphs (pool_of pool) h.slots ≡ graphs_without handle h.table (slot_graphs (pool_of pool) h.slots)
  none_lost handle = ap (slot_graphs (pool_of pool)) none_left.1 ∙ (λ i. graphs_without handle (sym none_left.0 i) (slot_graphs (pool_of pool) (sym none_left.1 i)))

  -- the current graph is alone
  pub alone : (graph : List Element) → union_of_sets (graph ∷ slot_graphs (pool_of pool) h.slots) ≡ graph
  alone graph = ap (λ (slots : List ℕ). union_of_sets (graph ∷ slot_graphs (pool_of pool) slots)) none_left.1

-- after a whole sweep the cells that are left are the elements of the current graph and of those of the handles
pub left_is : {Z : Type 0} → UnionOfHandles → (pool : Option (Box PoolState Z)) (graph : List Element) (h : HandlesState) (cells : ℕ) → IsTied (pool_of pool) h → IsOverlayOf graph (pool_in pool)
    → IfSome (pool_in pool) IsSweptWhole → MatchOption (pool_in pool) (cells ≡ length graph) (λ p. cells ≡ length (cells_of p)) → cells ≡ length (union_of_sets (graph ∷ slot_graphs (pool_of pool) h.slots))
left_is {Z} union None graph h cells tied is swept many = many ∙ ap length (sym (alone {Z = Z} h None refl tied graph))
left_is union (Some b) graph h cells tied is swept many =
    many ∙ ap length (swept.cells ∙ union b.value h tied) ∙ ap (λ (g : List Element). length (union_of_sets (g ∷ slot_graphs b.value h.slots))) is

-- ---- with a pool

-- its current graph is that of the history
pub now_of : {Z : Type 0} → (graph : List Element) (o : Option (Box PoolState Z)) (b : Box PoolState Z) → o ≡ Some b → IsOverlayOf graph (pool_in o) → graph_now (pool_of o) ≡ graph
now_of graph None b is on = absurd (none-some b is)
now_of graph (Some box) b is on = on

-- ---- over another pool

-- what is held is held over another pool of the same history, where no graph of a slot has changed
pub held_over : TieIsKept → (old : Held) (live : Live) → IsHeld old → live.history ≡ old.live.history → IsLiveHistory live → SameSlots (pool_in old.live.pool) (pool_in live.pool)
    → IsHeld (record { live = live; handles = old.handles; adjacency = old.adjacency })
held_over tie old live held same sound slots = record {
  live = sound;
  handles = record {
    tied = tie (pool_of old.live.pool) (pool_of live.pool) old.handles slots held.handles.tied;
    nodes = subst (λ (z : StoredHistory). HasNodes (index_opening z.index) old.handles.table) (sym same) held.handles.nodes;
    adjacency = kept_on (pool_of old.live.pool) (pool_of live.pool) old.handles old.adjacency slots held.handles.adjacency;
    named = subst (λ (z : StoredHistory). All (NamesAreThere (length z.names)) (slot_graphs (pool_of live.pool) old.handles.slots)) (sym same)
        (subst (All (NamesAreThere (length old.live.history.names))) (sym (graphs_same (pool_of old.live.pool) (pool_of live.pool) slots old.handles.slots)) held.handles.named);
  };
}
