-- Path independence over the index of a history: the edges are sound, and the parts hold its records.
use Rattle.std.proofs.Common.{◌≡◌, ℕ, cond, List, [], ◌∷◌, ◌++◌, map, drop, Some, refl, sym, ap, subst, ◌∙◌}
use Rattle.std.specs.List.{All}
use Rattle.std.proofs.lemmas.List.Elements.{All-nil, All-cons}
use Rattle.dg_graph.specs.declared.element.Columns.{Columns}
use Rattle.dg_graph.specs.Elements.{IsSet, shown}
use Rattle.dg_graph.proofs.ExactEvents.{IsSet-replay_from}
use Rattle.dg_history.specs.declared.node.Key.{Key}
use Rattle.dg_history.specs.declared.node.Key.TheVariants as key
use Rattle.dg_history.specs.declared.node.NodeId.{NodeId}
use Rattle.dg_history.specs.declared.node.NodeId.TheVariants as node
use Rattle.dg_history.specs.History.{History, events_of}
use Rattle.dg_index.specs.Hierarchy.{set_of}
use Rattle.dg_index.specs.IndexRecords.{column_in, record_among}
use Rattle.dg_index.proofs.HierarchySteps.{IsSet-node}
use Rattle.dg_plan.specs.declared.edge.Edge.{Edge}
use Rattle.dg_plan.specs.declared.edge.Via.{Via}
use Rattle.dg_plan.specs.declared.edge.Via.TheVariants as via
use Rattle.dg_plan.specs.declared.edge.Way.{Way}
use Rattle.dg_plan.specs.IndexGraph.{edges_of}
use Rattle.dg_fold.specs.declared.part.Part.{Part}
use Rattle.dg_fold.specs.BytesRead.{IsPartOf, AreParts, named_along, named_by}
use Rattle.dg_fold.specs.HistoryPaths.{HistoryPathsLead}
use Rattle.dg_fold.specs.Parts.{are_events, RecordFits}
use Rattle.dg_fold.specs.PathIndependence.{begun_at, contents, IsSoundEdge, IsWalk}
use Rattle.dg_plan.specs.TreePaths.{edges_at}
use Rattle.dg_fold.specs.Steps.{PartedStep, names_record, paired, StepHolds, PartHolds}
use Rattle.dg_fold.proofs.RecordFits.{records_fit}
use Rattle.dg_fold.proofs.PathIndependencePlans.{plans_lead}
use Rattle.dg_fold.proofs.PathIndependenceEdges.{edges_are_sound}
use Rattle.dg_fold.proofs.Steps.{part_of, paired_first}
use Rattle.dg_fold.proofs.PathIndependenceSteps.{steps_are_walks}
use Rattle.dg_records.specs.ColumnReads.{ColumnBytes, is_events}

-- the set of each node is a set
pub node_set : (z : History) (n : NodeId) → IsSet (set_of z.params (events_of z) n)
node_set z node.Root = tt
node_set z node.Now = IsSet-replay_from (events_of z) [] tt
node_set z node.Recent = IsSet-node z.params (events_of z) 0 _
node_set z (node.Leaf j) = IsSet-node z.params (events_of z) 0 j
node_set z (node.List i) = IsSet-node z.params (events_of z) 0 i
node_set z (node.Inner h j) = IsSet-node z.params (events_of z) h j

-- a key names events exactly where its record has them
kind_is : (z : History) (k : Key) → is_events k ≡ are_events (record_among z.params (events_of z) z.batches k)
kind_is z (key.List i) = refl
kind_is z (key.Piece s) = refl
kind_is z (key.Top h) = refl
kind_is z (key.Down h c) = refl

module _ (names : ℕ) (z : History) (cols : Columns) (fit : (k : Key) → RecordFits names (record_among z.params (events_of z) z.batches k)) where
  abbrev pub bytes : ColumnBytes
  bytes k col = column_in z k col

  abbrev pub Holding : PartedStep → Type 0
  Holding s = StepHolds names cols (contents z) s.0.via s.1

  part_holds : (k : Key) (way : Way) (p : Part) → IsPartOf bytes cols (k, way) p → PartHolds names cols (record_among z.params (events_of z) z.batches k) way (Some p)
  part_holds k way p is = (
    p,
    refl,
    is.way,
    is.until,
    record { kind = ap is_events is.key ∙ kind_is z k; bytes = is.columns },
    fit k,
  )

  -- the first edge takes its part, and the others go on with the rest
  one_holds : (rest : List (Key × Way)) (v : Via) (parts : List Part) → AreParts bytes cols (named_by v ++ rest) parts
      → StepHolds names cols (contents z) v (part_of v parts) × AreParts bytes cols rest (cond (names_record v) (drop 1 parts) parts)
  one_holds rest via.Now parts are = (tt, are)
  one_holds rest (via.Base handle) parts are = (tt, are)
  one_holds rest (via.Recent way) parts are = (tt, are)
  one_holds rest (via.Paid k way) [] are = absurd are
  one_holds rest (via.Paid k way) (p ∷ parts) are = (part_holds k way p are.0, are.1)
  one_holds rest (via.Held k way) [] are = absurd are
  one_holds rest (via.Held k way) (p ∷ parts) are = (part_holds k way p are.0, are.1)

  pub parts_hold : (walk : List Edge) (parts : List Part) → AreParts bytes cols (named_along walk) parts → All Holding (paired walk parts)
  parts_hold [] parts are = All-nil Holding
  parts_hold (e ∷ walk) parts are =
      let rest = cond (names_record e.via) (drop 1 parts) parts in
      let both = one_holds (named_along walk) e.via parts are in
      subst (All Holding) (sym (paired_first e walk parts))
      (All-cons Holding (e, part_of e.via parts) (paired walk rest) both.0 (parts_hold walk rest both.1))

-- the edges of the steps
pub edges_paired : (walk : List Edge) (parts : List Part) → map (λ (s : PartedStep). s.0) (paired walk parts) ≡ walk
edges_paired [] parts = refl
edges_paired (e ∷ walk) parts =
    ap (map (λ (s : PartedStep). s.0)) (paired_first e walk parts)
    ∙ ap (λ l. e ∷ l) (edges_paired walk (cond (names_record e.via) (drop 1 parts) parts))

pub history_paths_lead : HistoryPathsLead
history_paths_lead names z indexed g graph cols a b steps leads parts are =
    let edges = edges_of g in
    let walk = edges_at edges steps in
    let x = contents z in
    let fit = λ (k : Key). records_fit names z indexed.fits indexed.few indexed.lists indexed.short k in
    let walks = steps_are_walks edges steps a b leads in
    let is = edges_paired walk parts in
    let led = plans_lead names cols x a (paired walk parts) b
    (record {
      names_fit = indexed.names_fit;
      sets = node_set z;
      sound = subst (All (IsSoundEdge x)) (sym is) (walks.1 x (edges_are_sound z g indexed.arity indexed.changes graph.leaves graph.arity));
      walk = subst (λ l. IsWalk a l b) (sym is) walks.0;
      parts = parts_hold names z cols fit walk parts are;
    }) in
    (led.0, led.1, λ d composes set s alike. led.2 d composes set (s, alike ∙ ap (λ l. shown (x.set (begun_at a l)) cols) (sym is)))
