-- What the records along a plan over an index come to, in an image of a history: the set of the plan's node.
use Rattle.std.proofs.Common.{◌≡◌, ℕ, zero, suc, ◌+◌, ◌-◌, ◌*◌, ◌/◌, ◌<◌, true, cond, List as ListOf, [], ◌∷◌, ◌++◌, get_or, length, map, Result, Ok, refl, sym, ◌∙◌, ap, subst, arith}
use Rattle.std.specs.Prelude.{not}
use Rattle.std.specs.List.{All, Contains, flat_map}
use Rattle.std.proofs.lemmas.List.Elements.{All-append, All-contains, All-filter, All-from_recursion, All-head, All-map, All-nil, All-tail}
use Rattle.dg_delta.specs.Deltas.{composed}
use Rattle.dg_delta.proofs.Deltas.{applies_each_in_turn, says-composed}
use Rattle.dg_fold.specs.BytesRead.{AreParts, named_along, named_by}
use Rattle.dg_fold.specs.declared.part.Part.{Part}
use Rattle.dg_fold.specs.HistoryPaths.{IsGraphOf}
use Rattle.dg_fold.specs.HistoryTrees.{KeepsKey}
use Rattle.dg_fold.specs.Parts.{beside, deltas_in_part, parts_in}
use Rattle.dg_fold.specs.PathIndependence.{begun_at, enters_held}
use Rattle.dg_plan.specs.TreePaths.{edges_at}
use Rattle.dg_fold.specs.Steps.{paired, steps_in}
use Rattle.dg_fold.proofs.HistoryPaths.{history_paths_lead}
use Rattle.dg_fold.proofs.BytesReadParts.{kept_parts_are_the_records}
use Rattle.dg_fold.proofs.LegalHistories.{legal_is_indexed}
use Rattle.dg_graph.specs.declared.element.Column.{Column}
use Rattle.dg_graph.specs.declared.element.Column.TheVariants.{Structure, NodeAttr, EdgeAttr, Transient}
use Rattle.dg_graph.specs.declared.element.Columns.{Columns}
use Rattle.dg_graph.specs.declared.element.Element.{Element}
use Rattle.dg_graph.specs.declared.event.Event.{Event}
use Rattle.dg_graph.specs.Composition.{Composes, Delta, then_says, applied, nothing, says}
use Rattle.dg_graph.specs.Elements.{asks, column_of, shown}
use Rattle.dg_history.specs.declared.node.Key.{Key}
use Rattle.dg_history.specs.declared.node.NodeId.{NodeId}
use Rattle.dg_history.specs.declared.node.NodeId.TheVariants.{Root}
use Rattle.dg_history.specs.declared.params.Params.{Params}
use Rattle.dg_history.specs.History.{History, events_of, names_of}
use Rattle.dg_index.specs.Hierarchy.{numbers, set_of}
use Rattle.dg_index.specs.ImageOfHistory.{IsImageOf}
use Rattle.dg_index.specs.IndexRecords.{column_in, heights, recent_of}
use Rattle.dg_index.specs.OpenedIndex.{Opening, event_total, opened_of}
use Rattle.dg_index.proofs.OpenedIndexRecords.{record_held}
use Rattle.dg_index.proofs.OpenedIndexHistories.{IsBehind, large_parameters}
use Rattle.dg_plan.specs.declared.edge.Edge.{Edge}
use Rattle.dg_plan.specs.declared.edge.Via.{Via}
use Rattle.dg_records.specs.ColumnReads.{ColumnBytes, kept_in}
use Rattle.dg_plan.specs.declared.edge.Via.TheVariants as via
use Rattle.dg_plan.specs.declared.edge.Way.{Way}
use Rattle.dg_plan.specs.HistoryGraph.{all_columns}
use Rattle.dg_plan.specs.IndexGraph.{Ground, arcs_of, child_edges, inner_edges, inners_at, is_root, level_edges, list_edges, top_edge}
use Rattle.dg_plan.specs.Walks.{Leads, Reaches}
use Rattle.dg_plan.proofs.EnteredRecordTrees.{all_flat}
use Rattle.dg_retrieval.specs.KeptGraph.{record_edges, record_ground}
use Rattle.dg_retrieval.specs.NodeSets.{IsLedByPlan, set_after}
use Rattle.dg_retrieval.proofs.KeptGraphRecords.{NamesWhatExists, named_edges}
use Rattle.dg_retrieval.proofs.BranchTrees.{all_at}
use Rattle.dg_index.proofs.OpenedLegalHistories.{behind}

-- ---- each edge of the records alone reads a record

abbrev ReadsRecord : Via → Type 0
ReadsRecord via.Now = ⊥
ReadsRecord (via.Base handle) = ⊥
ReadsRecord (via.Paid key way) = Unit {0}
ReadsRecord (via.Held key way) = Unit {0}
ReadsRecord (via.Recent way) = ⊥

abbrev Reads : Edge → Type 0
Reads e = ReadsRecord e.via

edges_read : (o : Opening) → All Reads (record_edges o)
edges_read o =
    let g : Ground = record_ground o in
    All-filter (λ (e : Edge). not (is_root e.to)) Reads _
    (All-append Reads (map (top_edge g.weight) (heights g.arity g.leaves)) _ (All-map Reads (top_edge g.weight) (heights g.arity g.leaves) (λ i d within. tt))
    (All-append Reads (flat_map (list_edges g.weight) (numbers 0 g.leaves)) _
    (all_flat Reads (list_edges g.weight) (numbers 0 g.leaves) (λ i there. All-from_recursion Reads (list_edges g.weight i) (tt, (tt, (tt, (tt, tt))))))
    (All-append Reads (flat_map (level_edges g.weight g.leaves g.arity) (heights g.arity g.leaves)) _
    (all_flat Reads (level_edges g.weight g.leaves g.arity) (heights g.arity g.leaves) (λ h there.
    all_flat Reads (inner_edges g.weight g.arity (h - 1)) (numbers 1 (inners_at g.leaves g.arity h)) (λ j within.
    all_flat Reads (child_edges g.weight (h - 1) j) (numbers ((j - 1) * g.arity + 1) g.arity) (λ c at. All-from_recursion Reads (child_edges g.weight (h - 1) j c) (tt, (tt, tt))))))
    (All-nil Reads))))

-- so a walk along them begins where it does
begins_there : (a : NodeId) (walk : ListOf Edge) → All Reads walk → begun_at a walk ≡ a
begins_there a [] read = refl
begins_there a (e ∷ walk) read = by e.via (All-head Reads e walk read)
  where
    by : (v : Via) → ReadsRecord v → cond (enters_held v) e.to a ≡ a
    by via.Now h = absurd h
    by (via.Base handle) h = absurd h
    by (via.Paid key way) h = refl
    by (via.Held key way) h = refl
    by (via.Recent way) h = absurd h

-- and its steps have the deltas of its parts
module _ (names : ℕ) (recent : ListOf Event) (bytes : ColumnBytes) (cols : Columns) where
  abbrev by_way : Edge → Via → Edge
  by_way e v = record { from = e.from; to = e.to; weight = e.weight; via = v }

  steps_are_parts : (walk : ListOf Edge) (parts : ListOf Part) → All Reads walk → AreParts bytes cols (named_along walk) parts → steps_in names recent (paired walk parts) ≡ parts_in names parts
  steps_are_parts [] [] read are = refl
  steps_are_parts [] (p ∷ parts) read are = absurd are
  steps_are_parts (e ∷ walk) parts read are = by (λ rest there. steps_are_parts walk rest (All-tail Reads e walk read) there) e.via (All-head Reads e walk read) parts are
    where
      by : ((rest : ListOf Part) → AreParts bytes cols (named_along walk) rest → steps_in names recent (paired walk rest) ≡ parts_in names rest)
          → (v : Via) → ReadsRecord v → (parts : ListOf Part) → AreParts bytes cols (named_by v ++ named_along walk) parts
          → steps_in names recent (paired (by_way e v ∷ walk) parts) ≡ parts_in names parts
      by more via.Now h parts are = absurd h
      by more (via.Base handle) h parts are = absurd h
      by more (via.Paid key way) h [] are = absurd are
      by more (via.Paid key way) h (p ∷ parts) are = ap (beside (deltas_in_part names p)) (more parts are.1)
      by more (via.Held key way) h [] are = absurd are
      by more (via.Held key way) h (p ∷ parts) are = ap (beside (deltas_in_part names p)) (more parts are.1)
      by more (via.Recent way) h parts are = absurd h

-- ---- deltas one after another are one

composed_all : ListOf Delta → Delta
composed_all [] = nothing
composed_all (d ∷ list) = composed d (composed_all list)

composes_all : (list : ListOf Delta) → Composes (composed_all list) list
unfolding composed_all
composes_all [] x = refl
composes_all (d ∷ list) x = says-composed d (composed_all list) x ∙ ap (then_says (says d x)) (composes_all list x)

-- ---- all columns

all_asked : (col : Column) → asks all_columns col ≡ true
all_asked Structure = refl
all_asked NodeAttr = refl
all_asked EdgeAttr = refl
all_asked Transient = refl

-- a set is shown whole in all columns
shown_whole : (set : ListOf Element) → shown set all_columns ≡ set
shown_whole [] = refl
shown_whole (x ∷ set) = ap (λ b. cond b (x ∷ shown set all_columns) (shown set all_columns)) (all_asked (column_of x)) ∙ ap (λ (l : ListOf Element). x ∷ l) (shown_whole set)

-- ---- an image of a history

only_root : (a : NodeId) → Contains (Root ∷ []) a → Root ≡ a
only_root a there = by there.0 there.1 there.2
  where
    by : (k : ℕ) → k < 1 → get_or (Root ∷ []) k a ≡ a → Root ≡ a
    by zero within is = is
    by (suc k) within is = absurd (omega arith)

module _ (z : History) (image : ListOf ℕ) (stands : IsImageOf z image) (o : Opening) (opened : o ≡ (opened_of z).index) where
  state : IsBehind z.params (opened_of z) (events_of z) (names_of z)
  state = behind z stands.legal

  params : o.params ≡ z.params
  params = ap (λ (x : Opening). x.params) opened ∙ state.params

  count : event_total o.batches ≡ length (events_of z)
  count = ap (λ (x : Opening). event_total x.batches) opened ∙ state.count

  -- the graph of the records of the index is one of the history
  graph : IsGraphOf z (record_ground o)
  graph = record { leaves = λ i. count i / (params i).l; arity = ap (λ (p : Params). p.k) params }

  module _ (node : NodeId) (steps : ListOf ℕ) (walk : Reaches (arcs_of (record_edges o)) (Root ∷ []) steps node) (parts : ListOf Part)
      (are : AreParts (kept_in image o) all_columns (named_along (edges_at (record_edges o) steps)) parts) where
    leads : Leads (arcs_of (record_edges o)) Root steps node
    leads = subst (λ (a : NodeId). Leads (arcs_of (record_edges o)) a steps node) (sym (only_root walk.0 walk.1)) walk.2

    read : All Reads (edges_at (record_edges o) steps)
    read = all_at Reads (record_edges o) steps (edges_read o)

    -- the index keeps each record that is named
    keeps : All (λ (n : Key × Way). KeepsKey (opened_of z).index n.0) (named_along (edges_at (record_edges o) steps))
    keeps =
        let large = large_parameters z.params.l z.params.k stands.legal.parameters in
        let Exist : Edge → Type 0 = λ (e : Edge). NamesWhatExists z.params (length (events_of z)) e.via in
        let exist : All Exist (edges_at (record_edges o) steps) =
        all_at Exist (record_edges o) steps (named_edges z.params (length (events_of z)) (omega (arith, large.1)) (record_ground o) graph.leaves graph.arity) in
        all_flat (λ (n : Key × Way). KeepsKey (opened_of z).index n.0) (λ (e : Edge). named_by e.via) (edges_at (record_edges o) steps) (λ e there i d within.
        let n : Key × Way = get_or (named_by e.via) i d in
        record_held z stands.legal n.0 (All-contains Exist (edges_at (record_edges o) steps) e exist there i d within))

    are_records : AreParts (λ key col. column_in z key col) all_columns (named_along (edges_at (record_edges o) steps)) parts
    are_records =
        (kept_parts_are_the_records z image stands).1 all_columns (named_along (edges_at (record_edges o) steps)) keeps parts
        (subst (λ (p : Opening). AreParts (kept_in image p) all_columns (named_along (edges_at (record_edges o) steps)) parts) opened are)

    -- nothing is damaged, and the parts come to the set of the node
    parts_come : set_after (parts_in (length (names_of z)) parts) ≡ Ok (set_of z.params (events_of z) node)
    parts_come =
        let names : ℕ = length (names_of z) in
        let led = history_paths_lead names z (legal_is_indexed z stands.legal).0 (record_ground o) graph all_columns Root node steps leads parts are_records in
        let list : ListOf Delta = led.0 in
        let whole : parts_in names parts ≡ Ok list =
        sym (steps_are_parts names (recent_of z.params (events_of z)) (λ key col. column_in z key col) all_columns (edges_at (record_edges o) steps) parts read are_records) ∙ led.1 in
        let d : Delta = composed_all list in
        let begun : shown [] all_columns ≡ shown (set_of z.params (events_of z) (begun_at Root (edges_at (record_edges o) steps))) all_columns =
        ap (λ (n : NodeId). shown (set_of z.params (events_of z) n) all_columns) (sym (begins_there Root (edges_at (record_edges o) steps) read)) in
        let come : shown (applied d []) all_columns ≡ shown (set_of z.params (events_of z) node) all_columns = led.2 d (composes_all list) [] tt begun in
        ap set_after whole
        ∙ ap (λ (set : ListOf Element). Ok set)
        (sym (applies_each_in_turn d list [] (composes_all list) tt) ∙ sym (shown_whole (applied d [])) ∙ come ∙ shown_whole (set_of z.params (events_of z) node))

  -- the plan of a node leads to the set of the node
  pub plan_leads : (names : ℕ) → names ≡ length (names_of z) → (node : NodeId) (led : Result (ListOf Element) (Key × Column)) → IsLedByPlan names image o node led
      → led ≡ Ok (set_of z.params (events_of z) node)
  plan_leads names few node led h =
      h.4 ∙ ap (λ n. set_after (parts_in n h.2)) few ∙ parts_come node h.0 h.1.walk h.2 h.3
