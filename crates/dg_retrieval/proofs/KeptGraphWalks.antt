-- Walks over the records that an index keeps: what reading them asks for, what they weigh, and which records they name.
use Rattle.std.proofs.Common.{◌≡◌, ℕ, ◌<◌, Bool, true, List as ListOf, [], ◌∷◌, get_or, length, is_some, refl, sym, ap, subst, ◌∙◌, arith}
use Rattle.std.specs.List.{All, Contains}
use Rattle.std.specs.Map.{lookup}
use Rattle.std.proofs.lemmas.List.Elements.{All-contains, All-contains_itself, All-weaker}
use Rattle.dg_fold.specs.declared.part.Part.{Part}
use Rattle.dg_fold.specs.BytesRead.{AreParts, HoldsWhatIsEntered, IsKept, entered_length, kept_in, named_along, named_by}
use Rattle.dg_plan.specs.TreePaths.{edges_at}
use Rattle.dg_fold.proofs.BytesReadParts.{parts_alike}
use Rattle.dg_graph.specs.declared.element.Column.{Column}
use Rattle.dg_graph.specs.declared.element.Columns.{Columns}
use Rattle.dg_history.specs.declared.node.Key.{Key}
use Rattle.dg_history.specs.declared.node.NodeId.{NodeId}
use Rattle.dg_history.specs.declared.node.NodeId.TheVariants.{Root}
use Rattle.dg_history.specs.declared.params.Params.{Params}
use Rattle.dg_history.specs.History.{History, are_parameters, events_of}
use Rattle.dg_history.specs.Keys.{same_key}
use Rattle.dg_index.specs.ImageOfHistory.{IsImageOf}
use Rattle.dg_index.specs.IndexKeys.{AreKept, key_exists}
use Rattle.dg_index.specs.IndexRecords.{column_in}
use Rattle.dg_index.specs.OpenedIndex.{Opening, event_total, opened_of}
use Rattle.dg_index.proofs.OpenedIndexRecords.{record_held}
use Rattle.dg_index.proofs.OpenedIndexHistories.{large_parameters}
use Rattle.dg_plan.specs.declared.edge.Edge.{Edge}
use Rattle.dg_plan.specs.declared.edge.Way.{Way}
use Rattle.dg_plan.specs.IndexGraph.{arcs_of}
use Rattle.dg_plan.specs.Walks.{Graft, IsTree, steps_of, weight_of}
use Rattle.dg_plan.proofs.EnteredRecordTrees.{all_flat}
use Rattle.dg_retrieval.specs.KeptGraph.{HoldNoList, index_edges, index_ground}
use Rattle.dg_retrieval.proofs.KeptGraphRecords.{NamesWhatExists, named_edges}
use Rattle.dg_retrieval.proofs.BranchTrees.{all_at}
use Rattle.dg_retrieval.proofs.KeptGraphTrees.{edges_kept, tree_holds}
use Rattle.dg_retrieval.proofs.KeptGraphWeights.{has_columns, opened_events, opened_params, steps_weigh}

module _ (o : Opening) (cols : Columns) (memory : Bool) (bases : ListOf (ℕ × NodeId)) (edges : ListOf Edge) (is : edges ≡ index_edges o cols memory bases) (steps : ListOf ℕ) (walk : ListOf Edge) (along : walk ≡ edges_at edges steps) where
  in_graph : walk ≡ edges_at (index_edges o cols memory bases) steps
  in_graph = along ∙ ap (λ (es : ListOf Edge). edges_at es steps) is

  -- what holds of each edge of the graph holds of those of the walk
  pub walk_all : (P : Edge → Type 0) → All P (index_edges o cols memory bases) → All P walk
  walk_all P all = subst (λ (es : ListOf Edge). All P es) (sym in_graph) (all_at P (index_edges o cols memory bases) steps all)

  -- they are edges of the graph
  pub walk_among : All (Contains (index_edges o cols memory bases)) walk
  walk_among = walk_all (Contains (index_edges o cols memory bases)) (All-contains_itself (index_edges o cols memory bases))

  -- the index keeps each record that is entered
  pub walk_kept : are_parameters o.params.l o.params.k ≡ true → AreKept o → All (λ (e : Edge). IsKept o e.via) walk
  walk_kept right kept = walk_all (λ (e : Edge). IsKept o e.via) (edges_kept o right kept cols memory bases)

  -- each record of a tree is entered before it is held
  pub walk_entered : HoldNoList bases → (targets : ListOf NodeId) (grafts : ListOf (Graft NodeId)) → IsTree (arcs_of edges) (Root ∷ []) targets grafts → steps_of grafts ≡ steps → HoldsWhatIsEntered [] walk
  walk_entered none targets grafts tree all =
      subst (HoldsWhatIsEntered []) (sym (in_graph ∙ ap (edges_at (index_edges o cols memory bases)) (sym all)))
      (tree_holds (index_ground o cols memory bases) none targets grafts (subst (λ (es : ListOf Edge). IsTree (arcs_of es) (Root ∷ []) targets grafts) is tree))

  module _ (z : History) (image : ListOf ℕ) (stands : IsImageOf z image) (opened : o ≡ (opened_of z).index) where
    -- over an image of a history, the asked bytes of the records are what the steps weigh
    pub walk_weighs : entered_length (kept_in image o) cols walk ≡ weight_of (arcs_of edges) steps
    walk_weighs =
        ap (entered_length (kept_in image o) cols) in_graph ∙ steps_weigh z image stands o opened (has_columns z image stands o opened) cols memory bases steps
        ∙ ap (λ (es : ListOf Edge). weight_of (arcs_of es) steps) (sym is)

    -- the index keeps each record that is named
    walk_named : All (λ (named : Key × Way). is_some (lookup (same_key named.0) o.records) ≡ true) (named_along walk)
    walk_named =
        let params : o.params ≡ z.params = ap (λ (x : Opening). x.params) opened ∙ opened_params z in
        let count : event_total o.batches ≡ length (events_of z) = ap (λ (x : Opening). event_total x.batches) opened ∙ opened_events z in
        let large = large_parameters z.params.l z.params.k stands.legal.parameters in
        let wide : 0 < o.params.k = subst (λ (p : Params). 0 < p.k) (sym params) (let two = large.1 in omega arith) in
        let exist = walk_all (λ (e : Edge). NamesWhatExists o.params (event_total o.batches) e.via) (named_edges o.params (event_total o.batches) wide (index_ground o cols memory bases) refl refl) in
        all_flat (λ (named : Key × Way). is_some (lookup (same_key named.0) o.records) ≡ true) (λ (e : Edge). named_by e.via) walk (λ e among i d within.
        let key : Key = (get_or (named_by e.via) i d).0 in
        let there : key_exists o.params (event_total o.batches) key ≡ true = All-contains (λ (e : Edge). NamesWhatExists o.params (event_total o.batches) e.via) walk e exist among i d within in
        ap (λ (x : Opening). is_some (lookup (same_key key) x.records)) opened ∙ record_held z stands.legal key ((λ i. key_exists (sym params i) (sym count i) key) ∙ there))

    -- parts of the walk hold the columns of the history's records
    pub walk_records : (parts : ListOf Part) → AreParts (kept_in image o) cols (named_along walk) parts → AreParts (λ key col. column_in z key col) cols (named_along walk) parts
    walk_records parts are =
        parts_alike (kept_in image o) (λ key col. column_in z key col) cols (named_along walk)
        (All-weaker (λ (n : Key × Way). is_some (lookup (same_key n.0) o.records) ≡ true) (λ (n : Key × Way). (col : Column) → kept_in image o n.0 col ≡ column_in z n.0 col)
        (λ n held col. has_columns z image stands o opened n.0 held col) (named_along walk) walk_named) parts are
