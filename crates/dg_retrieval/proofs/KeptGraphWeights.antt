-- What a tree of plans weighs is the bytes of the records that it enters.
use Rattle.std.proofs.Common.{◌≡◌, ℕ, ◌+◌, ◌<◌, Bool, true, false, List as ListOf, [], ◌∷◌, ◌++◌, length, Option, Some, None, is_some, refl, sym, ap, subst, ◌∙◌, arith}
use Rattle.std.specs.Prelude.{slice_get}
use Rattle.std.specs.List.{All, sum_by}
use Rattle.std.specs.Map.{lookup}
use Rattle.std.specs.Option.{option_map, option_to_list}
use Rattle.std.proofs.lemmas.Bool.{false≢true}
use Rattle.std.proofs.lemmas.List.Elements.{All-weaker}
use Rattle.std.proofs.lemmas.List.Sums.{sum_by-append, sum_by-cons}
use Rattle.std.proofs.lemmas.Option.{slice_get-map}
use Rattle.dg_graph.specs.declared.element.Column.{Column}
use Rattle.dg_graph.specs.declared.element.Column.TheVariants.{Structure, NodeAttr, EdgeAttr}
use Rattle.dg_graph.specs.declared.element.Columns.{Columns}
use Rattle.dg_history.specs.declared.node.Key.{Key}
use Rattle.dg_history.specs.declared.node.NodeId.{NodeId}
use Rattle.dg_history.specs.declared.params.Params.{Params}
use Rattle.dg_history.specs.History.{History, events_of}
use Rattle.dg_history.specs.Keys.{same_key}
use Rattle.dg_index.specs.declared.entry.Entry.{Entry}
use Rattle.dg_index.specs.ImageOfHistory.{IsImageOf}
use Rattle.dg_index.specs.IndexKeys.{key_exists}
use Rattle.dg_index.specs.IndexRecords.{column_in, length_in}
use Rattle.dg_index.specs.OpenedIndex.{Opening, column_at, entry_or_none, event_total, opened_of}
use Rattle.dg_index.proofs.HeldRecords.{known}
use Rattle.dg_index.proofs.OpenedIndexRecords.{record_held}
use Rattle.dg_index.proofs.IndexRecordColumns.{columns_are_kept}
use Rattle.dg_index.proofs.OpenedIndexHistories.{large_parameters}
use Rattle.dg_plan.specs.declared.edge.Edge.{Edge}
use Rattle.dg_plan.specs.declared.edge.Via.{Via}
use Rattle.dg_plan.specs.declared.edge.Via.TheVariants as via
use Rattle.dg_plan.specs.IndexGraph.{arc_of, arcs_of}
use Rattle.dg_plan.specs.Walks.{Arc, Graft, IsTree, entered, steps_of, tree_weight, weight_in, weight_of}
use Rattle.dg_plan.proofs.WalkPlans.{one_plan}
use Rattle.dg_planner.proofs.HistoryLawGraphs.{lengths_are}
use Rattle.dg_fold.specs.BytesRead.{ColumnBytes, asked_length, entered_along, entered_by, entered_length, kept_in, read_of}
use Rattle.dg_fold.proofs.ColumnFronts.{history_read}
use Rattle.dg_fold.specs.Parts.{graph_columns}
use Rattle.dg_plan.specs.TreePaths.{edges_at}
use Rattle.dg_retrieval.specs.KeptGraph.{holding, index_edges, index_ground}
use Rattle.dg_retrieval.proofs.BranchTrees.{at_index}
use Rattle.dg_retrieval.proofs.KeptGraphTrees.{IsPaid, paid_edges}

-- ---- any edges

-- the edge weighs the asked bytes of the record that it enters, without messages
abbrev pub WeighsWhatItEnters : ColumnBytes → Columns → Edge → Type 0
WeighsWhatItEnters bytes cols e = e.weight ≡ sum_by (asked_length bytes (graph_columns cols)) (entered_by e.via)

-- steps weigh the asked bytes of the records that they enter
pub weigh_all : (edges : ListOf Edge) (bytes : ColumnBytes) (cols : Columns) → All (WeighsWhatItEnters bytes cols) edges → (steps : ListOf ℕ)
    → entered_length bytes cols (edges_at edges steps) ≡ weight_of (arcs_of edges) steps
weigh_all edges bytes cols all [] = refl
weigh_all edges bytes cols all (i ∷ steps) = by (weigh_all edges bytes cols all steps) (slice_get edges i) refl ∙ sym (sum_by-cons (λ k. weight_in (slice_get (arcs_of edges) k)) i steps)
  where
    by : entered_length bytes cols (edges_at edges steps) ≡ weight_of (arcs_of edges) steps → (o : Option Edge) → slice_get edges i ≡ o → entered_length bytes cols (option_to_list o ++ edges_at edges steps) ≡ weight_in (slice_get (arcs_of edges) i) + weight_of (arcs_of edges) steps
    by rest None is =
        let here : weight_in (slice_get (arcs_of edges) i) ≡ 0 = ap weight_in (slice_get-map arc_of edges i ∙ ap (option_map arc_of) is) in
        omega (arith, rest, here)
    by rest (Some e) is =
        let here : weight_in (slice_get (arcs_of edges) i) ≡ e.weight = ap weight_in (slice_get-map arc_of edges i ∙ ap (option_map arc_of) is) in
        let one : e.weight ≡ sum_by (asked_length bytes (graph_columns cols)) (entered_by e.via) = at_index (WeighsWhatItEnters bytes cols) edges i e all is in
        let both : entered_length bytes cols (e ∷ edges_at edges steps) ≡ sum_by (asked_length bytes (graph_columns cols)) (entered_by e.via) + entered_length bytes cols (edges_at edges steps) =
        sum_by-append (asked_length bytes (graph_columns cols)) (entered_by e.via) (entered_along (edges_at edges steps)) in
        omega (arith, rest, here, one, both)

-- a tree weighs what its steps do
pub tree_steps_weigh : {N : Type 0} (g : ListOf (Arc N)) (grafts : ListOf (Graft N)) → tree_weight g grafts ≡ weight_of g (steps_of grafts)
tree_steps_weigh g [] = refl
tree_steps_weigh {N = N} g (x ∷ grafts) =
    sum_by-cons (λ (graft : Graft N). weight_of g graft.steps) x grafts ∙ ap (λ n. weight_of g x.steps + n) (tree_steps_weigh g grafts)
    ∙ sym (sum_by-append (λ i. weight_in (slice_get g i)) x.steps (steps_of grafts))

-- two trees of the same targets have the same steps
pub one_tree : {N : Type 0} (g : ListOf (Arc N)) (tree targets : ListOf N) (xs ys : ListOf (Graft N)) → IsTree g tree targets xs → IsTree g tree targets ys → steps_of xs ≡ steps_of ys
one_tree g tree [] [] [] t u = refl
one_tree g tree [] [] (y ∷ ys) t u = elim u [ ]
one_tree g tree [] (x ∷ xs) ys t u = elim t [ ]
one_tree g tree (v ∷ targets) [] ys t u = elim t [ ]
one_tree g tree (v ∷ targets) (x ∷ xs) [] t u = elim u [ ]
one_tree g tree (v ∷ targets) (x ∷ xs) (y ∷ ys) t u =
    let same : x.steps ≡ y.steps = one_plan g tree v x.steps y.steps t.0 u.0 in
    let rest = one_tree g (tree ++ entered g x.steps) targets xs ys t.3 (subst (λ s. IsTree g (tree ++ entered g s) targets ys) (sym same) u.3) in
    λ i. same i ++ rest i

pub one_weight : {N : Type 0} (g : ListOf (Arc N)) (tree targets : ListOf N) (xs ys : ListOf (Graft N)) → IsTree g tree targets xs → IsTree g tree targets ys → tree_weight g xs ≡ tree_weight g ys
one_weight g tree targets xs ys t u = tree_steps_weigh g xs ∙ ap (weight_of g) (one_tree g tree targets xs ys t u) ∙ sym (tree_steps_weigh g ys)

-- ---- what a history is opened as

pub opened_params : (z : History) → (opened_of z).index.params ≡ z.params
opened_params z = (known z).params

pub opened_events : (z : History) → event_total (opened_of z).index.batches ≡ length (events_of z)
opened_events z = (known z).count

-- ---- over an image of a history

-- an image of the history has the columns of the history's record at each key that the index keeps
abbrev pub HasColumns : History → ListOf ℕ → Opening → Type 0
HasColumns z image o = (k : Key) → is_some (lookup (same_key k) o.records) ≡ true → (col : Column) → kept_in image o k col ≡ column_in z k col

-- each image of the history does
pub has_columns : (z : History) (image : ListOf ℕ) → IsImageOf z image → (o : Opening) → o ≡ (opened_of z).index → HasColumns z image o
has_columns z image stands o opened k held col = by (lookup (same_key k) o.records) refl held
  where
    by : (e : Option Entry) → lookup (same_key k) o.records ≡ e → is_some e ≡ true → kept_in image o k col ≡ column_in z k col
    by None is some = absurd (false≢true some)
    by (Some e) is some =
        ap (λ (x : Option Entry). read_of k (column_at image (entry_or_none x) col)) is
        ∙ ap (read_of k) (columns_are_kept z image stands k e (ap (λ (x : Opening). lookup (same_key k) x.records) (sym opened) ∙ is) col)
        ∙ history_read z stands.legal k col

-- the asked bytes of a record
asked_is : (z : History) (bytes : ColumnBytes) (cols : Columns) (k : Key) → ((col : Column) → bytes k col ≡ column_in z k col) → asked_length bytes (graph_columns cols) k ≡ length_in z k cols
asked_is z bytes cols k same = by cols.nodes_attr cols.edges_attr
  where
    by : (n m : Bool) → asked_length bytes (record { nodes_attr = n; edges_attr = m; transient = false }) k ≡ length_in z k (record { nodes_attr = n; edges_attr = m; transient = cols.transient })
    by true true = omega (arith, ap length (same Structure), ap length (same NodeAttr), ap length (same EdgeAttr))
    by true false = omega (arith, ap length (same Structure), ap length (same NodeAttr))
    by false true = omega (arith, ap length (same Structure), ap length (same EdgeAttr))
    by false false = omega (arith, ap length (same Structure))

module _ (z : History) (image : ListOf ℕ) (stands : IsImageOf z image) (o : Opening) (opened : o ≡ (opened_of z).index) (has : HasColumns z image o) (cols : Columns) (memory : Bool) (bases : ListOf (ℕ × NodeId)) where
  abbrev n : ℕ
  n = event_total o.batches

  params : o.params ≡ z.params
  params = ap (λ (x : Opening). x.params) opened ∙ opened_params z

  count : n ≡ length (events_of z)
  count = ap (λ (x : Opening). event_total x.batches) opened ∙ opened_events z

  weighs : (e : Edge) → IsPaid o.params n (index_ground o cols memory bases).weight e.weight e.via → WeighsWhatItEnters (kept_in image o) cols e
  weighs e = by e.via e.weight
    where
      by : (v : Via) (w : ℕ) → IsPaid o.params n (index_ground o cols memory bases).weight w v → w ≡ sum_by (asked_length (kept_in image o) (graph_columns cols)) (entered_by v)
      by via.Now w paid = paid
      by (via.Base handle) w paid = paid
      by (via.Paid k way) w paid =
          let there : key_exists z.params (length (events_of z)) k ≡ true = (λ i. key_exists (sym params i) (sym count i) k) ∙ paid.0 in
          let held : is_some (lookup (same_key k) o.records) ≡ true = ap (λ (x : Opening). is_some (lookup (same_key k) x.records)) opened ∙ record_held z stands.legal k there in
          let weight : (index_ground o cols memory bases).weight k ≡ length_in z k cols = lengths_are z stands.legal (holding o.records) (ap (λ (x : Opening). x.records) opened) cols k there in
          let bytes : asked_length (kept_in image o) (graph_columns cols) k ≡ length_in z k cols = asked_is z (kept_in image o) cols k (has k held) in
          omega (arith, paid.1, weight, bytes)
      by (via.Held k way) w paid = paid
      by (via.Recent way) w paid = paid

  -- each edge of the graph weighs the asked bytes of the record that it enters
  pub edges_weigh : All (WeighsWhatItEnters (kept_in image o) cols) (index_edges o cols memory bases)
  edges_weigh =
      let large = large_parameters z.params.l z.params.k stands.legal.parameters in
      let wide : 0 < o.params.k = subst (λ (p : Params). 0 < p.k) (sym params) (let two = large.1 in omega arith) in
      All-weaker (λ (e : Edge). IsPaid o.params n (index_ground o cols memory bases).weight e.weight e.via) (WeighsWhatItEnters (kept_in image o) cols) weighs (index_edges o cols memory bases)
      (paid_edges o.params n wide (index_ground o cols memory bases) refl refl)

  -- steps weigh the asked bytes of the records that they enter
  pub steps_weigh : (steps : ListOf ℕ)
      → entered_length (kept_in image o) cols (edges_at (index_edges o cols memory bases) steps) ≡ weight_of (arcs_of (index_edges o cols memory bases)) steps
  steps_weigh steps = weigh_all (index_edges o cols memory bases) (kept_in image o) cols edges_weigh steps
