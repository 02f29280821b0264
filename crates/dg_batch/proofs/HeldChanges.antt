-- What a session lives on once a batch was added, or was not.
use Rattle.std.proofs.Common.{◌≡◌, ℕ, ◌<◌, ◌≤◌, List, Option, true, length, take, refl, sym, ap, subst, arith}
use Rattle.std.specs.Prelude.{IfSome, is_some}
use Rattle.std.specs.List.{All}
use Rattle.std.proofs.lemmas.List.{length-take}
use Rattle.dg_append.proofs.Overlays.{same_slots}
use Rattle.dg_append.specs.AddedBatches.{AddsBatch, IsAsKnown, IsBack, MayAdd}
use Rattle.dg_append.specs.LiveHistories.{IsLiveHistory}
use Rattle.dg_append.specs.Overlays.{SameSlots, pool_in, pool_of}
use Rattle.dg_append.specs.declared.batch.AddedBatch.{AddedBatch}
use Rattle.dg_append.specs.declared.batch.Batch.{Batch}
use Rattle.dg_append.specs.declared.fault.BatchFault.{BatchFault}
use Rattle.dg_append.specs.declared.fault.BatchFault.TheVariants as fault
use Rattle.dg_append.specs.declared.live.Live.{Live}
use Rattle.dg_ask.proofs.KeptAdjacencies.{graphs_same, kept_on}
use Rattle.dg_ask.specs.HeldIndex.{HasNodes}
use Rattle.dg_batch.proofs.HeldGraphs.{names_more}
use Rattle.dg_batch.proofs.HeldIndexNodes.{nodes_after}
use Rattle.dg_batch.specs.Held.{HoldsHandles, IsHeld, graphs_held}
use Rattle.dg_batch.specs.declared.held.Held.{Held}
use Rattle.dg_handles.specs.Handles.{TieIsKept}
use Rattle.dg_index.specs.OpenedIndex.{Opening}
use Rattle.dg_retrieval.specs.NamesThere.{NamesAreThere}
use Rattle.dg_stored.specs.StoredHistory.{index_opening}

module _ (tie : TieIsKept) (batch : Batch) (old : Held) (new : Live) (may : MayAdd batch old.live) (holds : HoldsHandles batch.known old) where
  -- the handles and adjacencies stay, over another history and pool
  abbrev Over : Held
  Over = record { live = new; handles = old.handles; adjacency = old.adjacency }

  -- no graph of a slot has changed, the index has the nodes, and there are no fewer names than the batch found
  handles_over : (n : ℕ) → SameSlots (pool_in old.live.pool) (pool_in new.pool) → HasNodes (index_opening new.history.index) old.handles.table → batch.known ≤ n → HoldsHandles n Over
  handles_over n slots nodes more = record {
    tied = tie (pool_of old.live.pool) (pool_of new.pool) old.handles slots holds.tied;
    nodes = nodes;
    adjacency = kept_on (pool_of old.live.pool) (pool_of new.pool) old.handles old.adjacency slots holds.adjacency;
    named = subst (All (NamesAreThere n)) (sym (graphs_same (pool_of old.live.pool) (pool_of new.pool) slots old.handles.slots))
        (names_more batch.known n more (graphs_held old) holds.named);
  }

  pub held_added : (limit : ℕ) (before after : Option (List ℕ)) (added : AddedBatch) → IfSome (index_opening old.live.history.index) (λ o. 0 < o.params.l)
      → IfSome (index_opening old.live.history.index) (λ o. AddsBatch o limit batch old.live new before after added) → IsLiveHistory new → IsHeld Over
  held_added limit before after added pos adds live =
      let d : AddsBatch may.index limit batch old.live new before after added =
      subst (λ (i : Option Opening). IfSome i (λ o. AddsBatch o limit batch old.live new before after added)) may.there adds in
      let there : is_some (index_opening old.live.history.index) ≡ true = ap is_some may.there in
      record {
        live = live;
        handles = handles_over (length new.history.names) d.slots (nodes_after old.live.history.index limit batch old.live new before after added old.handles.table there pos adds holds.nodes)
            (omega (arith, may.ready.within, ap length d.names));
      }

  known_is : (n : ℕ) (names : List (List ℕ)) → n ≤ length names → n ≤ length (take n names)
  known_is n names le = omega (arith, le, length-take n names)

  as_known : IsAsKnown batch.known old.live new → IsLiveHistory new → IsHeld Over
  as_known back live = record {
    live = live;
    handles = handles_over (length new.history.names) (same_slots (pool_in old.live.pool) (pool_in new.pool) back.graphs) (subst (λ (i : Option Opening). HasNodes i old.handles.table) (sym back.index) holds.nodes)
        (subst (λ (ns : List (List ℕ)). batch.known ≤ length ns) (sym back.names) (known_is batch.known old.live.history.names may.ready.within));
  }

  pub held_back : (f : BatchFault) → (f ≡ fault.Store → ⊥) → IsBack f batch.known old.live new → IsLiveHistory new → IsHeld Over
  held_back (fault.BadChange line reason) kept back live = as_known back live
  held_back fault.OldFormat kept back live = as_known back live
  held_back (fault.FileFull needed most) kept back live = as_known back live
  held_back (fault.Damaged key col) kept back live = as_known back live
  held_back fault.Read kept back live = as_known back live
  held_back fault.Memory kept back live = as_known back live
  held_back fault.Store kept back live = absurd (kept refl)
