-- What leads to the set of a node, by its plan over the records of an index.
use Rattle.std.proofs.Common.{◌≡◌, ℕ, zero, suc, ◌<◌, true, false, List as ListOf, [], ◌∷◌, Option, Result, Ok, Err, IfSome, get_or, inr, append-nil, refl, sym, ap, subst, ◌∙◌, arith}
use Rattle.std.specs.Prelude.{◌≢◌}
use Rattle.std.specs.List.{All}
use Rattle.std.proofs.lemmas.List.Elements.{All-nil}
use Rattle.std.proofs.lemmas.Option.{IfSome_then}
use Rattle.dg_delta.proofs.Deltas.{applies_each_in_turn}
use Rattle.dg_fold.specs.declared.fault.FoldFault.{FoldFault}
use Rattle.dg_fold.specs.declared.fault.FoldFault.TheVariants as fold_fault
use Rattle.dg_fold.specs.declared.part.Part.{Part}
use Rattle.dg_fold.specs.BytesRead.{AreParts, HoldsWhatIsEntered, IsKept, Takes, TakesAtMost, entered_length, kept_in, named_along}
use Rattle.dg_fold.specs.Parts.{Folds, parts_in}
use Rattle.dg_plan.specs.TreePaths.{edges_at}
use Rattle.dg_graph.specs.declared.element.Column.{Column}
use Rattle.dg_graph.specs.declared.element.Element.{Element}
use Rattle.dg_graph.specs.declared.element.Columns.{Columns}
use Rattle.dg_graph.specs.Composition.{Composes, Delta, IsDelta, applied}
use Rattle.dg_graph.specs.Elements.{shown}
use Rattle.dg_graph.specs.Sets.{unioned}
use Rattle.dg_graph.proofs.Sets.{same_members, IsSet-unioned, has-unioned}
use Rattle.dg_history.specs.declared.node.Key.{Key}
use Rattle.dg_history.specs.declared.node.NodeId.{NodeId}
use Rattle.dg_history.specs.declared.node.NodeId.TheVariants.{List, Root}
use Rattle.dg_history.specs.History.{History, are_parameters, events_of}
use Rattle.dg_index.specs.Hierarchy.{set_of}
use Rattle.dg_index.specs.IndexKeys.{AreKept}
use Rattle.dg_index.specs.IndexRecords.{column_in}
use Rattle.dg_index.specs.OpenedIndex.{Opening}
use Rattle.dg_plan.specs.declared.edge.Edge.{Edge}
use Rattle.dg_plan.specs.HistoryGraph.{all_columns}
use Rattle.dg_plan.specs.IndexGraph.{arcs_of}
use Rattle.dg_plan.specs.Walks.{Graft, IsPlan, IsTree, Leads, steps_of, weight_of}
use Rattle.dg_plan.proofs.WalkPlans.{one_plan}
use Rattle.dg_records.specs.declared.fault.RecordFault.{RecordFault}
use Rattle.dg_records.specs.declared.fault.RecordFault.TheVariants as fault
use Rattle.dg_fold.specs.Faults.{of_fold}
use Rattle.dg_retrieval.specs.KeptGraph.{index_edges, index_ground, record_edges}
use Rattle.dg_retrieval.specs.NodeSets.{IsIndexOver, IsLedAlong, IsLedByPlan, IsUndamaged, set_after}
use Rattle.dg_retrieval.specs.Retrieval.{IsFirstDamage, IsNoDamage}
use Rattle.dg_retrieval.proofs.KeptGraphWalks.{walk_entered, walk_kept, walk_records, walk_weighs}
use Rattle.dg_retrieval.proofs.KeptGraphRecords.{graph_of_index}
use Rattle.dg_retrieval.proofs.StepRecords.{all_shown, records_lead}

-- a plan from the root leads from there
leads_from : (edges : ListOf Edge) (node : NodeId) (steps : ListOf ℕ) → IsPlan (arcs_of edges) (Root ∷ []) node steps → Leads (arcs_of edges) Root steps node
leads_from edges node steps plan = by plan.walk.0 plan.walk.1.0 plan.walk.1.1 plan.walk.1.2 plan.walk.2
  where
    by : (a : NodeId) (k : ℕ) → k < 1 → get_or (Root ∷ []) k a ≡ a → Leads (arcs_of edges) a steps node → Leads (arcs_of edges) Root steps node
    by a zero within is leads = subst (λ (n : NodeId). Leads (arcs_of edges) n steps node) (sym is) leads
    by a (suc k) within is leads = absurd (omega arith)

-- a composition, applied to the empty graph, is what its deltas come to one after another
folds_to : (d : Delta) (list : ListOf Delta) (due : Result (ListOf Delta) (Key × Column)) → due ≡ Ok list → Composes d list → Ok (applied d []) ≡ set_after due
folds_to d list due is composes = ap Ok (applies_each_in_turn d list [] composes tt) ∙ sym (ap set_after is)

-- from the empty graph a delta comes to what it puts in
pub from_nothing : (d : Delta) → IsDelta d → d.plus ≡ applied d []
from_nothing d sound = same_members d.plus (unioned [] d.plus) sound.plus (IsSet-unioned [] d.plus tt) (λ q. sym (has-unioned [] d.plus q))

module _ (o : Opening) (cols : Columns) (edges : ListOf Edge) (is : edges ≡ index_edges o cols false []) (node : NodeId) (steps : ListOf ℕ) (plan : IsPlan (arcs_of edges) (Root ∷ []) node steps)
    (walk : ListOf Edge) (along : walk ≡ edges_at edges steps) where
  -- the index keeps each record
  pub plan_kept : are_parameters o.params.l o.params.k ≡ true → AreKept o → All (λ (e : Edge). IsKept o e.via) walk
  plan_kept = walk_kept o cols false [] edges is steps walk along

  -- the plan, as a tree of one target
  abbrev graft : Graft NodeId
  graft = record { from = Root; steps = steps }

  tree : IsTree (arcs_of edges) (Root ∷ []) (node ∷ []) (graft ∷ [])
  tree = (plan, (0, omega arith, refl), leads_from edges node steps plan, tt)

  -- each record is entered before it is held
  pub plan_entered : HoldsWhatIsEntered [] walk
  plan_entered =
      walk_entered o cols false [] edges is steps walk along (All-nil (λ (b : ℕ × NodeId). (i : ℕ) → b.1 ≢ List i)) (node ∷ []) (graft ∷ []) tree (append-nil steps)

  -- over an image of a history, the bytes of the records are what the plan weighs
  plan_weighs : (z : History) (image : ListOf ℕ) (names : ℕ) → IsIndexOver z image o names → entered_length (kept_in image o) cols walk ≡ weight_of (arcs_of edges) steps
  plan_weighs z image names over = walk_weighs o cols false [] edges is steps walk along z image over.stands over.opened

  module _ (names : ℕ) (image : Option (ListOf ℕ)) where
    pub plan_most : (before after : ℕ) → IfSome image (λ im. TakesAtMost (entered_length (kept_in im o) cols walk) before after)
        → IfSome image (λ im. (z : History) → IsIndexOver z im o names → (others : ListOf ℕ) → IsPlan (arcs_of edges) (Root ∷ []) node others → TakesAtMost (weight_of (arcs_of edges) others) before after)
    plan_most before after read = IfSome_then image read (λ im at z over others another.
        subst (λ n. TakesAtMost n before after)
        (plan_weighs z im names over ∙ ap (weight_of (arcs_of edges)) (one_plan (arcs_of edges) (Root ∷ []) node steps others plan another)) at)

    pub plan_takes : (weight before after : ℕ) → weight ≡ weight_of (arcs_of edges) steps → IfSome image (λ im. Takes (entered_length (kept_in im o) cols walk) before after)
        → IfSome image (λ im. (z : History) → IsIndexOver z im o names → Takes weight before after)
    plan_takes weight before after weighs read = IfSome_then image read (λ im at z over. subst (λ n. Takes n before after) (plan_weighs z im names over ∙ sym weighs) at)

    module _ (parts : ListOf Part) (read : IfSome image (λ im. AreParts (kept_in im o) cols (named_along walk) parts)) where
      -- the parts are those of the plan's edges
      of_plan : (im : ListOf ℕ) → AreParts (kept_in im o) cols (named_along walk) parts → AreParts (kept_in im o) cols (named_along (edges_at edges steps)) parts
      of_plan im there = subst (λ (w : ListOf Edge). AreParts (kept_in im o) cols (named_along w) parts) along there

      of_tree : (im : ListOf ℕ) → AreParts (kept_in im o) cols (named_along walk) parts → AreParts (kept_in im o) cols (named_along (edges_at edges (steps_of (graft ∷ [])))) parts
      of_tree im there = subst (λ (s : ListOf ℕ). AreParts (kept_in im o) cols (named_along (edges_at edges s)) parts) (sym (append-nil steps)) (of_plan im there)

      -- the delta is what the records along the plan compose to
      pub plan_led : (d : Delta) → Folds (Ok d) (parts_in names parts) → IfSome image (λ im. IsLedAlong names im o cols edges node d)
      plan_led d folds = IfSome_then image read (λ im there. (steps, plan, parts, of_plan im there, folds.0, folds.1, folds.2))

      -- none of them is damaged
      pub plan_whole : (d : Delta) → Folds (Ok d) (parts_in names parts) → IfSome image (λ im. IsUndamaged names edges o cols (node ∷ []) im)
      plan_whole d folds = IfSome_then image read (λ im there. (graft ∷ [], tree, parts, of_tree im there, folds.0, folds.1))

      -- or the first damage is named
      pub plan_damaged : (f : FoldFault) → Folds (Err f) (parts_in names parts) → IfSome image (λ im. IsFirstDamage names edges o cols (node ∷ []) im (of_fold f))
      plan_damaged fold_fault.Memory folds = IfSome_then image read (λ im there. tt)
      plan_damaged (fold_fault.Damaged key col) folds = IfSome_then image read (λ im there. (graft ∷ [], tree, parts, of_tree im there, folds))

      -- over an image of a history
      comes_to : (im : ListOf ℕ) → AreParts (kept_in im o) cols (named_along walk) parts → (z : History) → IsIndexOver z im o names
          → (list : ListOf Delta) × (parts_in names parts ≡ Ok list) × ((d : Delta) → Composes d list → shown (applied d []) cols ≡ shown (set_of z.params (events_of z) node) cols)
      comes_to im there z over =
          let are : AreParts (λ key col. column_in z key col) cols (named_along (edges_at (index_edges o cols false []) steps)) parts =
          subst (λ (w : ListOf Edge). AreParts (λ key col. column_in z key col) cols (named_along w) parts) (along ∙ ap (λ (es : ListOf Edge). edges_at es steps) is)
          (walk_records o cols false [] edges is steps walk along z im over.stands over.opened parts there) in
          let led =
          records_lead z over.stands.legal (index_ground o cols false []) (graph_of_index z o over.opened cols false []) refl refl cols steps node
          (subst (λ (es : ListOf Edge). Leads (arcs_of es) Root steps node) is (leads_from edges node steps plan)) parts are in
          (led.0, ap (λ n. parts_in n parts) over.names ∙ led.1, led.2)

      -- the delta leads to the set of the node
      pub plan_set_is : (d : Delta) → Folds (Ok d) (parts_in names parts)
          → IfSome image (λ im. (z : History) → IsIndexOver z im o names → shown (applied d []) cols ≡ shown (set_of z.params (events_of z) node) cols)
      plan_set_is d folds = IfSome_then image read (λ im there z over.
          let to = comes_to im there z over in
          let same : folds.0 ≡ to.0 = cc (folds.1, to.1) in
          to.2 d (subst (Composes d) same folds.2))

      -- nothing is damaged
      pub plan_never : (f : FoldFault) → Folds (Err f) (parts_in names parts) → IfSome image (λ im. (z : History) → IsIndexOver z im o names → IsNoDamage (of_fold f))
      plan_never fold_fault.Memory folds = IfSome_then image read (λ im there z over. inr refl)
      plan_never (fold_fault.Damaged key col) folds = IfSome_then image read (λ im there z over. absurd (let whole = (comes_to im there z over).1 in let damaged = folds in cc (whole, damaged)))

-- ---- the set itself, with all columns

module _ (names : ℕ) (image : Option (ListOf ℕ)) (o : Opening) (edges : ListOf Edge) (is : edges ≡ record_edges o) (node : NodeId) where
  -- the delta, applied to the empty graph, is what the records along the node's plan come to
  pub set_led : (d : Delta) → IfSome image (λ im. IsLedAlong names im o all_columns edges node d) → (set : ListOf Element) → set ≡ applied d [] → IfSome image (λ im. IsLedByPlan names im o node (Ok set))
  set_led d led set applies = IfSome_then image led (λ im there. (
    there.0,
    subst (λ (es : ListOf Edge). IsPlan (arcs_of es) (Root ∷ []) node there.0) is there.1,
    there.2,
    subst (λ (es : ListOf Edge). AreParts (kept_in im o) all_columns (named_along (edges_at es there.0)) there.2) is there.3,
    ap Ok applies ∙ folds_to d there.4 (parts_in names there.2) there.5 there.6,
  ))

  -- and is the set of the node
  pub set_is : (d : Delta) → IfSome image (λ im. (z : History) → IsIndexOver z im o names → shown (applied d []) all_columns ≡ shown (set_of z.params (events_of z) node) all_columns)
      → (set : ListOf Element) → set ≡ applied d [] → IfSome image (λ im. (z : History) → IsIndexOver z im o names → set ≡ set_of z.params (events_of z) node)
  set_is d led set applies = IfSome_then image led (λ im there z over. applies ∙ sym (all_shown (applied d [])) ∙ there z over ∙ all_shown (set_of z.params (events_of z) node))

  -- the first damage of the tree of one target is that of its plan
  pub set_damaged : (f : RecordFault) (key : Key) (col : Column) → f ≡ fault.Damaged key col → IfSome image (λ im. IsFirstDamage names edges o all_columns (node ∷ []) im f)
      → IfSome image (λ im. IsLedByPlan names im o node (Err (key, col)))
  set_damaged f key col named damage = IfSome_then image damage (λ im there. first im (subst (IsFirstDamage names edges o all_columns (node ∷ []) im) named there))
    where
      first : (im : ListOf ℕ) → IsFirstDamage names edges o all_columns (node ∷ []) im (fault.Damaged key col) → IsLedByPlan names im o node (Err (key, col))
      first im there = by there.0 there.1 there.2 there.3 there.4
        where
          by : (grafts : ListOf (Graft NodeId)) → IsTree (arcs_of edges) (Root ∷ []) (node ∷ []) grafts → (parts : ListOf Part)
              → AreParts (kept_in im o) all_columns (named_along (edges_at edges (steps_of grafts))) parts → parts_in names parts ≡ Err (key, col) → IsLedByPlan names im o node (Err (key, col))
          by [] tree parts are due = elim tree [ ]
          by (x ∷ []) tree parts are due = (
            x.steps,
            subst (λ (es : ListOf Edge). IsPlan (arcs_of es) (Root ∷ []) node x.steps) is tree.0,
            parts,
            subst (λ (es : ListOf Edge). AreParts (kept_in im o) all_columns (named_along (edges_at es x.steps)) parts) is
                (subst (λ (s : ListOf ℕ). AreParts (kept_in im o) all_columns (named_along (edges_at edges s)) parts) (append-nil x.steps) are),
            sym (ap set_after due),
          )
          by (x ∷ y ∷ grafts) tree parts are due = elim tree.3 [ ]

  -- where a plan weighs so much, each plan of the node does
  pub set_takes : (weight before after : ℕ) → (steps : ListOf ℕ) × IsPlan (arcs_of edges) (Root ∷ []) node steps × (weight ≡ weight_of (arcs_of edges) steps)
      → IfSome image (λ im. (z : History) → IsIndexOver z im o names → Takes weight before after)
      → IfSome image (λ im. (z : History) → IsIndexOver z im o names → (others : ListOf ℕ) → IsPlan (arcs_of edges) (Root ∷ []) node others → Takes (weight_of (arcs_of edges) others) before after)
  set_takes weight before after plan takes = IfSome_then image takes (λ im at z over others another.
      subst (λ n. Takes n before after) (plan.2 ∙ ap (weight_of (arcs_of edges)) (one_plan (arcs_of edges) (Root ∷ []) node plan.0 others plan.1 another)) (at z over))
