-- The nodes that handles hold are nodes of the index after a batch, and of the graph in which plans are made.
use Rattle.std.proofs.Common.{◌≡◌, ℕ, ◌+◌, ◌*◌, ◌^◌, ◌<◌, ◌≤◌, Bool, true, List as ListOf, Option, Some, None, sym, ◌∙◌, ap, subst, arith}
use Rattle.std.specs.Prelude.{IfSome, is_some, ◌&&◌, nat_le}
use Rattle.std.specs.List.{All}
use Rattle.std.proofs.lemmas.Bool.{leb-true, le-leb, false≢true, and_parts}
use Rattle.std.proofs.lemmas.List.Elements.{All-weaker}
use Rattle.std.proofs.lemmas.List.Sums.{sum_by_push}
use Rattle.std.proofs.lemmas.Option.{IfSome_then}
use Rattle.dg_append.specs.declared.batch.AddedBatch.{AddedBatch}
use Rattle.dg_append.specs.declared.batch.Batch.{Batch}
use Rattle.dg_append.specs.declared.live.Live.{Live}
use Rattle.dg_append.specs.AddedBatches.{AddsBatch}
use Rattle.dg_file.specs.Index.{IndexState}
use Rattle.dg_history.specs.declared.node.NodeId.{NodeId}
use Rattle.dg_history.specs.declared.node.NodeId.TheVariants.{Root, Now, Recent, Leaf, List as EventList, Inner}
use Rattle.dg_history.specs.declared.params.Params.{Params}
use Rattle.dg_index.proofs.HierarchyStability.{leaves_more}
use Rattle.dg_index.specs.Hierarchy.{leaves}
use Rattle.dg_index.specs.declared.entry.BatchEntry.{BatchEntry}
use Rattle.dg_index.specs.FileOfHistory.{Segment}
use Rattle.dg_index.specs.IndexGrowth.{index_with}
use Rattle.dg_index.specs.OpenedIndex.{Opening, directory_of, event_total}
use Rattle.dg_machine.specs.declared.stands.Stands.{Stands}
use Rattle.dg_machine.specs.MachineState.{base_node}
use Rattle.dg_machine.specs.Needs.{can_be_held}
use Rattle.dg_ask.specs.HeldIndex.{HasNodeOf, HasNodes}
use Rattle.dg_stored.specs.StoredHistory.{index_opening}

-- a node that can be held is there with more events
module _ (p : Params) (pos : 0 < p.l) (n more : ℕ) where
  few : leaves p n ≤ leaves p (n + more)
  few = leaves_more p.l n more pos

  pub held_more : (v : NodeId) → can_be_held p n v ≡ true → can_be_held p (n + more) v ≡ true
  held_more Root r = r
  held_more Now r = r
  held_more Recent r = r
  held_more (EventList i) r = r
  held_more (Leaf j) r =
      let parts = and_parts (nat_le 1 j) (nat_le j (leaves p n)) r in
      ap (λ (b : Bool). b && nat_le j (leaves p (n + more))) parts.0
      ∙ le-leb j (leaves p (n + more)) (omega (arith, few, leb-true j (leaves p n) parts.1))
  held_more (Inner h j) r =
      let parts = and_parts (nat_le 1 h) (nat_le 1 j && nat_le (j * p.k ^ h) (leaves p n)) r in
      let rest = and_parts (nat_le 1 j) (nat_le (j * p.k ^ h) (leaves p n)) parts.1 in
      ap (λ (b : Bool). b && (nat_le 1 j && nat_le (j * p.k ^ h) (leaves p (n + more)))) parts.0
      ∙ ap (λ (b : Bool). b && nat_le (j * p.k ^ h) (leaves p (n + more))) rest.0
      ∙ le-leb (j * p.k ^ h) (leaves p (n + more)) (omega (arith, few, leb-true (j * p.k ^ h) (leaves p n) rest.1))

-- with one more segment the index has the nodes that it had
pub nodes_with : (o : Opening) (s : Segment) → 0 < o.params.l → (table : ListOf (ℕ × Stands)) → HasNodes (Some o) table → HasNodes (Some (index_with o s)) table
nodes_with o s pos table h = All-weaker (λ (e : ℕ × Stands). HasNodeOf (Some o) e.1) (λ (e : ℕ × Stands). HasNodeOf (Some (index_with o s)) e.1) one table h
  where
    more : event_total (index_with o s).batches ≡ event_total o.batches + (directory_of s).batch.events
    more = sum_by_push (λ (b : BatchEntry). b.events) o.batches (directory_of s).batch

    one : (e : ℕ × Stands) → HasNodeOf (Some o) e.1 → HasNodeOf (Some (index_with o s)) e.1
    one e there = IfSome_then (base_node e.1.what) there
        (λ node r. ap (λ n. can_be_held o.params n node) more ∙ held_more o.params pos (event_total o.batches) (directory_of s).batch.events node r)

-- nor does it lose one by a batch
pub nodes_after : (i : Option IndexState) (limit : ℕ) (batch : Batch) (old new : Live) (before after : Option (ListOf ℕ)) (added : AddedBatch) (table : ListOf (ℕ × Stands))
    → is_some (index_opening i) ≡ true → IfSome (index_opening i) (λ o. 0 < o.params.l) → IfSome (index_opening i) (λ o. AddsBatch o limit batch old new before after added)
    → HasNodes (index_opening i) table → HasNodes (index_opening new.history.index) table
nodes_after None limit batch old new before after added table there pos adds h = absurd (false≢true there)
nodes_after (Some x) limit batch old new before after added table there pos adds h =
    subst (λ (o : Option Opening). HasNodes o table) (sym adds.index) (nodes_with x.opening adds.segment pos table h)
