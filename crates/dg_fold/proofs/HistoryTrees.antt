-- Path independence over the index of a history, along the paths of a tree and on to an instant.
use Rattle.std.proofs.Common.{◌≡◌, ◌<◌, ◌^◌, ◌⊎◌, inl, inr, ℕ, Bool, true, false, cond, List as ListOf, [], ◌∷◌, ◌++◌, map, Option, Some, None, IfSome, Result, Ok, refl, sym, ap, subst, ◌∙◌}
use Rattle.std.specs.List.{All, Contains}
use Rattle.std.proofs.lemmas.Bool.{eq-eqb}
use Rattle.std.proofs.lemmas.List.Elements.{All-head, All-tail, All-contains, All-weaker}
use Rattle.dg_graph.specs.declared.element.Column.{Column}
use Rattle.dg_graph.specs.declared.element.Columns.{Columns}
use Rattle.dg_graph.specs.declared.event.Event.{Event}
use Rattle.dg_graph.specs.ColumnMerge.{never_fall}
use Rattle.dg_graph.specs.Composition.{Delta}
use Rattle.dg_graph.specs.Elements.{shown}
use Rattle.dg_graph.specs.Replay.{replay_at}
use Rattle.dg_history.specs.declared.node.Key.{Key}
use Rattle.dg_history.specs.declared.node.Key.TheVariants as key
use Rattle.dg_history.specs.declared.node.NodeId.{NodeId}
use Rattle.dg_history.specs.declared.node.NodeId.TheVariants.{Root, Now, Recent, Leaf, List, Inner}
use Rattle.dg_history.specs.History.{History, events_of}
use Rattle.dg_history.specs.Keys.{same_key}
use Rattle.dg_index.specs.IndexRecords.{Record, Events, closed_list, column_in, record_among, recent_of}
use Rattle.dg_index.proofs.IndexRecordColumns.{same_key_exact}
use Rattle.dg_plan.specs.declared.edge.Edge.{Edge}
use Rattle.dg_plan.specs.declared.edge.Via.{Via}
use Rattle.dg_plan.specs.declared.edge.Via.TheVariants as via
use Rattle.dg_plan.specs.declared.edge.Way.{Way}
use Rattle.dg_plan.specs.declared.edge.Way.TheVariants.{Forward}
use Rattle.dg_plan.specs.IndexGraph.{Ground, edges_of}
use Rattle.dg_plan.specs.InstantPoint.{point}
use Rattle.dg_fold.specs.declared.part.Part.{Part}
use Rattle.dg_fold.specs.BytesRead.{AreParts, named_along, named_by}
use Rattle.dg_fold.specs.Ends.{last_in, list_part, part_until}
use Rattle.dg_fold.specs.HistoryPaths.{IsIndexed, IsGraphOf}
use Rattle.dg_fold.specs.Parts.{beside, bytes_in, graph_columns, taken_as, PartHasRecord, RecordFits}
use Rattle.dg_fold.specs.PathIndependence.{contents, Contents, IsSoundEdge}
use Rattle.dg_fold.specs.Steps.{FoldGoesOn, By_part, By_events, PartedStep, paired, part_deltas, step_by, steps_in, StepHolds, PartHolds}
use Rattle.dg_fold.specs.Trees.{IsAmong, IsStepOf, PathIn, Begins_at_root, Steps_on}
use Rattle.dg_fold.proofs.PartColumns.{parts_are_read}
use Rattle.dg_fold.proofs.RecordFits.{records_fit}
use Rattle.dg_fold.proofs.HistoryPaths.{edges_paired, node_set, parts_hold}
use Rattle.dg_fold.proofs.PathIndependenceTrees.{trees_reach}
use Rattle.dg_fold.proofs.PathIndependenceEdges.{edges_are_sound}
use Rattle.dg_fold.specs.HistoryTrees.{HistoryTreesReach, HoldsNoList}
use Rattle.dg_fold.specs.PointSplits.{next_of}
use Rattle.dg_fold.proofs.IndexGraphLists.{EntersAs, Reads, all_read}
use Rattle.dg_fold.proofs.PointSplits.{points_split}
use Rattle.dg_records.specs.ColumnReads.{ColumnBytes, asked_column, is_events}

-- ---- one of several edges

fact_of : (P : Edge → Type 0) (walk : ListOf Edge) (e : Edge) → All P walk → IsAmong e walk → P e
fact_of P [] e h at = absurd at
fact_of P (f ∷ walk) e h (inl is) = subst P (sym is) (All-head P f walk h)
fact_of P (f ∷ walk) e h (inr at) = fact_of P walk e (All-tail P f walk h) at

edge_among : (all : ListOf PartedStep) (s : PartedStep) → IsStepOf s all → IsAmong s.0 (map (λ (t : PartedStep). t.0) all)
edge_among [] s at = absurd at
edge_among (t ∷ all) s (inl is) = inl (ap (λ (x : PartedStep). x.0) is)
edge_among (t ∷ all) s (inr at) = inr (edge_among all s at)

-- a path to a list ends with an edge into it
last_edge : (all : ListOf PartedStep) (v : NodeId) (path : ListOf PartedStep) → PathIn all v path → (i : ℕ) → v ≡ List i
    → (e : Edge) × IsAmong e (map (λ (s : PartedStep). s.0) all) × (e.to ≡ List i)
last_edge all v path Begins_at_root i is = cc
last_edge all v path (Steps_on s before at rest) i is = (s.0, edge_among all s at, is)

-- ---- the part of a list

abbrev IsNamed : ℕ → ListOf (Key × Way) → Type 0
IsNamed i [] = ⊥
IsNamed i (n ∷ named) = (n.0 ≡ key.List i) ⊎ IsNamed i named

named_front : (i : ℕ) (xs ys : ListOf (Key × Way)) → IsNamed i xs → IsNamed i (xs ++ ys)
named_front i [] ys h = absurd h
named_front i (x ∷ xs) ys (inl is) = inl is
named_front i (x ∷ xs) ys (inr h) = inr (named_front i xs ys h)

named_back : (i : ℕ) (xs ys : ListOf (Key × Way)) → IsNamed i ys → IsNamed i (xs ++ ys)
named_back i [] ys h = h
named_back i (x ∷ xs) ys h = inr (named_back i xs ys h)

-- an edge that reads the list names it
named_among : (i : ℕ) (way : Way) (walk : ListOf Edge) (e : Edge) → IsAmong e walk → e.via ≡ via.Paid (key.List i) way → IsNamed i (named_along walk)
named_among i way [] e at is = absurd at
named_among i way (f ∷ walk) e (inl same) is =
    named_front i (named_by f.via) (named_along walk) (subst (λ v. IsNamed i (named_by v)) (sym is ∙ ap (λ (x : Edge). x.via) same) (inl refl))
named_among i way (f ∷ walk) e (inr at) is = named_back i (named_by f.via) (named_along walk) (named_among i way walk e at is)

module _ (bytes : ColumnBytes) (cols : Columns) (i : ℕ) where
  -- the part of the list, with its columns
  record IsListPart (p : Part) : Type 0 where
    pub of : p.key ≡ key.List i
    pub columns : (col : Column) → bytes_in p.bytes col ≡ asked_column bytes (graph_columns cols) (key.List i) col

  part_found : (named : ListOf (Key × Way)) (parts : ListOf Part) → AreParts bytes cols named parts → IfSome (list_part i parts) IsListPart
  part_found [] [] are = tt
  part_found [] (p ∷ parts) are = absurd are
  part_found (n ∷ named) [] are = absurd are
  part_found (n ∷ named) (p ∷ parts) are = by (same_key p.key (key.List i)) refl (part_found named parts are.1)
    where
      by : (b : Bool) → same_key p.key (key.List i) ≡ b → IfSome (list_part i parts) IsListPart → IfSome (cond b (Some p) (list_part i parts)) IsListPart
      by true is more =
          let same : p.key ≡ key.List i = same_key_exact p.key (key.List i) is in
          record { of = same; columns = λ col. are.0.columns col ∙ ap (λ k. asked_column bytes (graph_columns cols) k col) (sym are.0.key ∙ same) }
      by false is more = more

  named_found : (named : ListOf (Key × Way)) (parts : ListOf Part) → AreParts bytes cols named parts → IsNamed i named → (p : Part) × (list_part i parts ≡ Some p)
  named_found [] parts are h = absurd h
  named_found (n ∷ named) [] are h = absurd are
  named_found (n ∷ named) (p ∷ parts) are (inl is) =
      (p, ap (λ b. cond b (Some p) (list_part i parts)) (ap (λ k. same_key k (key.List i)) (are.0.key ∙ is) ∙ eq-eqb i i refl))
  named_found (n ∷ named) (p ∷ parts) are (inr h) = by (same_key p.key (key.List i)) (named_found named parts are.1 h)
    where
      by : (b : Bool) → (q : Part) × (list_part i parts ≡ Some q) → (q : Part) × (cond b (Some p) (list_part i parts) ≡ Some q)
      by true more = (p, refl)
      by false more = more

-- ---- what is read is whole

abbrev Whole : Result (ListOf Delta) (Key × Column) → Type 0
Whole due = (list : ListOf Delta) × (due ≡ Ok list)

both_whole : (a b : Result (ListOf Delta) (Key × Column)) → Whole a → Whole b → Whole (beside a b)
both_whole a b f g = (f.0 ++ g.0, (λ i. beside (f.1 i) (g.1 i)))

module _ (names : ℕ) (few : names < 2 ^ 32) (cols : Columns) (x : Contents) where
  held_whole : (r : Record) (way : Way) (part : Option Part) → PartHolds names cols r way part → Whole (part_deltas names part)
  held_whole r way part h =
      let read = parts_are_read names few cols r h.5 h.0 h.4 in
      (read.0, ap (part_deltas names) h.1 ∙ read.1)

  step_whole : (v : Via) (part : Option Part) → StepHolds names cols x v part → Whole (step_by names x.recent v part)
  step_whole via.Now part h = ([], refl)
  step_whole (via.Base handle) part h = ([], refl)
  step_whole (via.Paid k way) part h = held_whole (x.record_of k) way part h
  step_whole (via.Held k way) part h = held_whole (x.record_of k) way part h
  step_whole (via.Recent way) part h = (_, refl)

  steps_whole : (steps : ListOf PartedStep) → All (λ s. StepHolds names cols x s.0.via s.1) steps → Whole (steps_in names x.recent steps)
  steps_whole [] h = ([], refl)
  steps_whole (s ∷ steps) h =
      let P = λ (s : PartedStep). StepHolds names cols x s.0.via s.1 in
      both_whole (step_by names x.recent s.0.via s.1) (steps_in names x.recent steps)
      (step_whole s.0.via s.1 (All-head P s steps h)) (steps_whole steps (All-tail P s steps h))

-- ---- the index of a history

module _ (names : ℕ) (z : History) (indexed : IsIndexed names z) (rise : never_fall 0 (events_of z) ≡ true) (g : Ground) (graph : IsGraphOf z g) (cols : Columns)
    (walk : ListOf Edge) (among : All (Contains (edges_of g)) walk) (parts : ListOf Part) (are : AreParts (λ key col. column_in z key col) cols (named_along walk) parts) where
  abbrev bytes : ColumnBytes
  bytes k col = column_in z k col

  abbrev recent : ListOf Event
  recent = recent_of z.params (events_of z)

  fits : (k : Key) → RecordFits names (record_among z.params (events_of z) z.batches k)
  fits k = records_fit names z indexed.fits indexed.few indexed.lists indexed.short k

  holds : All (λ s. StepHolds names cols (contents z) s.0.via s.1) (paired walk parts)
  holds = parts_hold names z cols fits walk parts are

  sound : All (IsSoundEdge (contents z)) (map (λ s. s.0) (paired walk parts))
  sound =
      let all = edges_are_sound z g indexed.arity indexed.changes graph.leaves graph.arity in
      subst (All (IsSoundEdge (contents z))) (sym (edges_paired walk parts))
      (All-weaker (Contains (edges_of g)) (IsSoundEdge (contents z)) (λ e at. All-contains (IsSoundEdge (contents z)) (edges_of g) e all at) walk among)

  -- a part of a list, taken up to an instant, holds it
  until_holds : (i t : ℕ) (p : Part) → IsListPart bytes cols i p → PartHasRecord cols (Events (closed_list z.params (events_of z) i)) (taken_as p Forward (Some t))
  until_holds i t p is = record { kind = ap is_events is.of; bytes = is.columns }

  until_whole : (i t : ℕ) (o : Option Part) → IfSome o (IsListPart bytes cols i) → Whole (part_until names t o)
  until_whole i t None is = ([], refl)
  until_whole i t (Some p) is =
      let read = parts_are_read names indexed.names_fit cols (Events (closed_list z.params (events_of z) i)) (fits (key.List i)) (taken_as p Forward (Some t)) (until_holds i t p is) in
      (read.0, read.1)

  last_whole : (v : NodeId) (t : ℕ) → Whole (last_in names recent parts v t)
  last_whole Root t = ([], refl)
  last_whole Now t = ([], refl)
  last_whole Recent t = (_, refl)
  last_whole (Leaf j) t = ([], refl)
  last_whole (List i) t = until_whole i t (list_part i parts) (part_found bytes cols i (named_along walk) parts are)
  last_whole (Inner h j) t = ([], refl)

  -- the part of a list to which there is a path
  listed : HoldsNoList g → (i : ℕ) (path : ListOf PartedStep) → PathIn (paired walk parts) (List i) path → (p : Part) × (list_part i parts ≡ Some p)
  listed none i path at =
      let last = last_edge (paired walk parts) (List i) path at i refl in
      let e = last.0 in
      let there : IsAmong e walk = subst (IsAmong e) (edges_paired walk parts) last.1 in
      let enters : EntersAs e = All-contains EntersAs (edges_of g) e (all_read g none) (fact_of (Contains (edges_of g)) walk e among there) in
      let reads : Reads (List i) e.via = subst (λ n. Reads n e.via) last.2 enters in
      named_found bytes cols i (named_along walk) parts are (named_among i reads.0 walk e there reads.1)

  goes_on : HoldsNoList g → (t : ℕ) (v : NodeId) (path : ListOf PartedStep) → PathIn (paired walk parts) v path
      → FoldGoesOn names cols t (next_of z v) (last_in names recent parts v t)
  goes_on none t Root path at = By_events
  goes_on none t Now path at = By_events
  goes_on none t Recent path at = By_events
  goes_on none t (Leaf j) path at = By_events
  goes_on none t (Inner h j) path at = By_events
  goes_on none t (List i) path at =
      let found = listed none i path at in
      let is : IsListPart bytes cols i found.0 = subst (λ o. IfSome o (IsListPart bytes cols i)) found.1 (part_found bytes cols i (named_along walk) parts are) in
      subst (λ o. FoldGoesOn names cols t (next_of z (List i)) (part_until names t o)) (sym found.1)
      (By_part (taken_as found.0 Forward (Some t)) refl refl (until_holds i t found.0 is) (fits (key.List i)))

pub history_trees_reach : HistoryTreesReach
history_trees_reach names z indexed rise g graph cols walk among parts are =
    let all = paired walk parts in
    record {
      whole = steps_whole names indexed.names_fit cols (contents z) all (holds names z indexed rise g graph cols walk among parts are);
      ends = last_whole names z indexed rise g graph cols walk among parts are;
      reached = λ none t begun d led set is_set alike.
          let v = point z.params (events_of z) t in
          let split = points_split z t rise indexed.lists in
          trees_reach names indexed.names_fit cols (contents z) (node_set z) all (sound names z indexed rise g graph cols walk among parts are)
          (holds names z indexed rise g graph cols walk among parts are) parts v t begun d led split.first (next_of z v) split.last split.set split.up_to split.later
          (goes_on names z indexed rise g graph cols walk among parts are none t v led.0 led.1) set is_set alike
          ∙ ap (λ events. shown (replay_at events t) cols) split.whole;
    }
