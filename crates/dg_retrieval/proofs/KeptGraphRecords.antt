-- The records that the edges of an index name: they are among those of the index's history.
use Rattle.std.proofs.Common.{◌≡◌, ℕ, ◌/◌, ◌<◌, Bool, true, List as ListOf, [], ◌∷◌, length, ap, subst, ◌∙◌}
use Rattle.std.specs.List.{All}
use Rattle.std.proofs.lemmas.Bool.{lt-ltb}
use Rattle.std.proofs.lemmas.List.Elements.{All-from_recursion, All-nil}
use Rattle.dg_graph.specs.declared.element.Columns.{Columns}
use Rattle.dg_history.specs.declared.node.Key.{Key}
use Rattle.dg_history.specs.declared.node.Key.TheVariants as key
use Rattle.dg_history.specs.declared.node.NodeId.{NodeId}
use Rattle.dg_history.specs.declared.params.Params.{Params}
use Rattle.dg_history.specs.History.{History, events_of}
use Rattle.dg_index.specs.Hierarchy.{leaves}
use Rattle.dg_index.specs.IndexKeys.{key_exists}
use Rattle.dg_index.specs.OpenedIndex.{Opening, event_total, opened_of}
use Rattle.dg_plan.specs.declared.edge.Edge.{Edge}
use Rattle.dg_plan.specs.declared.edge.Via.{Via}
use Rattle.dg_plan.specs.declared.edge.Via.TheVariants as via
use Rattle.dg_plan.specs.declared.edge.Way.{Way}
use Rattle.dg_plan.specs.IndexGraph.{Ground, edges_of}
use Rattle.dg_fold.specs.BytesRead.{named_by}
use Rattle.dg_fold.specs.HistoryPaths.{IsGraphOf}
use Rattle.dg_retrieval.specs.KeptGraph.{index_ground}
use Rattle.dg_retrieval.proofs.KeptGraphTrees.{IsPaid, each_edge, paid_edges}
use Rattle.dg_retrieval.proofs.KeptGraphWeights.{opened_events, opened_params}

-- the record that an edge holds is one of an index of so many events
abbrev HoldsWhatExists : Params → ℕ → Via → Type 0
HoldsWhatExists p n via.Now = Unit {0}
HoldsWhatExists p n (via.Base handle) = Unit {0}
HoldsWhatExists p n (via.Paid k way) = Unit {0}
HoldsWhatExists p n (via.Held k way) = key_exists p n k ≡ true
HoldsWhatExists p n (via.Recent way) = Unit {0}

-- the record that an edge names is one of them
abbrev pub NamesWhatExists : Params → ℕ → Via → Type 0
NamesWhatExists p n v = All (λ (named : Key × Way). key_exists p n named.0 ≡ true) (named_by v)

held_edges : (p : Params) (n : ℕ) (g : Ground) → g.leaves ≡ leaves p n → All (λ (e : Edge). HoldsWhatExists p n e.via) (edges_of g)
held_edges p n g many = each_edge g (λ (e : Edge). HoldsWhatExists p n e.via) (record {
  now = λ there. tt;
  base = λ b there. tt;
  top = λ h low within. tt;
  list = λ i within. (tt, (tt, (there i within, (there i within, tt))));
  child = λ h j c some few low high. (tt, (tt, tt));
  recent = λ there. (tt, (tt, (tt, (tt, tt))));
})
  where
    there : (i : ℕ) → i < g.leaves → key_exists p n (key.List i) ≡ true
    there i within = lt-ltb i (leaves p n) (subst (λ m. i < m) many within)

pub named_edges : (p : Params) (n : ℕ) → 0 < p.k → (g : Ground) → g.leaves ≡ leaves p n → g.arity ≡ p.k → All (λ (e : Edge). NamesWhatExists p n e.via) (edges_of g)
named_edges p n wide g many arity =
    let paid = paid_edges p n wide g many arity in
    let held = held_edges p n g many in
    λ i d within. by _ _ (paid i d within) (held i d within)
  where
    one : (k : Key) (way : Way) → key_exists p n k ≡ true → All (λ (named : Key × Way). key_exists p n named.0 ≡ true) ((k, way) ∷ [])
    one k way there = All-from_recursion (λ (named : Key × Way). key_exists p n named.0 ≡ true) ((k, way) ∷ []) (there, tt)

    by : (v : Via) (w : ℕ) → IsPaid p n g.weight w v → HoldsWhatExists p n v → NamesWhatExists p n v
    by via.Now w paid held = All-nil (λ (named : Key × Way). key_exists p n named.0 ≡ true)
    by (via.Base handle) w paid held = All-nil (λ (named : Key × Way). key_exists p n named.0 ≡ true)
    by (via.Paid k way) w paid held = one k way paid.0
    by (via.Held k way) w paid held = one k way held
    by (via.Recent way) w paid held = All-nil (λ (named : Key × Way). key_exists p n named.0 ≡ true)

-- the graph of the records that an index of a history keeps is one of the history
pub graph_of_index : (z : History) (o : Opening) → o ≡ (opened_of z).index → (cols : Columns) (memory : Bool) (bases : ListOf (ℕ × NodeId)) → IsGraphOf z (index_ground o cols memory bases)
graph_of_index z o opened cols memory bases =
    let params : o.params ≡ z.params = ap (λ (x : Opening). x.params) opened ∙ opened_params z in
    let count : event_total o.batches ≡ length (events_of z) = ap (λ (x : Opening). event_total x.batches) opened ∙ opened_events z in
    record { leaves = λ i. count i / (params i).l; arity = ap (λ (p : Params). p.k) params }
