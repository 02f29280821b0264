-- Over the records of a history the step between two nodes of a tree is the exact delta between their sets.
use Rattle.std.proofs.Common.{◌≡◌, List, [], ◌∷◌, ℕ, Ok, inl, inr, false, sym, subst, ◌∙◌}
use Rattle.std.specs.List.{All, Contains}
use Rattle.std.proofs.lemmas.List.Elements.{All-contains, All-head, All-tail, All-weaker}
use Rattle.dg_graph.specs.declared.element.Element.{Element}
use Rattle.dg_graph.specs.Composition.{Delta, applied, between}
use Rattle.dg_history.specs.declared.node.Key.{Key}
use Rattle.dg_history.specs.declared.node.NodeId.{NodeId}
use Rattle.dg_history.specs.History.{History, events_of}
use Rattle.dg_index.specs.Hierarchy.{set_of}
use Rattle.dg_index.specs.IndexRecords.{column_in, record_among}
use Rattle.dg_plan.specs.declared.edge.Edge.{Edge}
use Rattle.dg_plan.specs.HistoryGraph.{all_columns}
use Rattle.dg_plan.specs.IndexGraph.{Ground, edges_of}
use Rattle.dg_fold.specs.declared.part.Part.{Part}
use Rattle.dg_fold.specs.BytesRead.{AreParts, named_along}
use Rattle.dg_fold.specs.HistoryPaths.{IsGraphOf, IsIndexed}
use Rattle.dg_fold.specs.Parts.{Folds, RecordFits}
use Rattle.dg_fold.specs.PathIndependence.{contents}
use Rattle.dg_fold.specs.Steps.{PartedStep, StepHolds, paired, steps_in}
use Rattle.dg_fold.specs.Trees.{IsStepOf}
use Rattle.dg_fold.proofs.HistoryPaths.{node_set, parts_hold}
use Rattle.dg_fold.proofs.RecordFits.{records_fit}
use Rattle.dg_retrieval.proofs.BeginningBases.{step_has}
use Rattle.dg_steps.specs.NodeSteps.{StepsAreExact}
use Rattle.dg_steps.specs.TreeSteps.{GoApart, IsStepBetween, walk_over}
use Rattle.dg_steps.proofs.ExactSteps.{exact_between}
use Rattle.dg_steps.proofs.RecordEdges.{LeadsBothWays, all_lead}
use Rattle.dg_steps.proofs.StepWalks.{IsRecordStep, apart_swapped, over_chained, over_each, walk_leads}

-- what holds of all steps holds of one of them
of_step : (P : PartedStep → Type 0) (all : List PartedStep) → All P all → (s : PartedStep) → IsStepOf s all → P s
of_step P [] h s at = elim at [ ]
of_step P (t ∷ all) h s (inl is) = subst P (sym is) (All-head P t all h)
of_step P (t ∷ all) h s (inr at) = of_step P all (All-tail P t all h) s at

module _ (names : ℕ) (z : History) (indexed : IsIndexed names z) (g : Ground) (graph : IsGraphOf z g) (none : g.bases ≡ []) (alone : g.memory ≡ false)
    (walk : List Edge) (among : All (Contains (edges_of g)) walk) (parts : List Part) (are : AreParts (λ key col. column_in z key col) all_columns (named_along walk) parts) where
  fits : (k : Key) → RecordFits names (record_among z.params (events_of z) z.batches k)
  fits k = records_fit names z indexed.fits indexed.few indexed.lists indexed.short k

  edges : All (LeadsBothWays (contents z)) walk
  edges =
      let all = all_lead z indexed.changes indexed.arity g graph.arity none alone in
      All-weaker (Contains (edges_of g)) (LeadsBothWays (contents z)) (λ e at. All-contains (LeadsBothWays (contents z)) (edges_of g) e all at) walk among

  -- each step of the walk takes a record that leads both ways, by a part that holds it
  pub steps_lead : (s : PartedStep) → IsStepOf s (paired walk parts) → IsRecordStep names (contents z) s
  steps_lead s at = record {
    edge = step_has (LeadsBothWays (contents z)) walk parts edges s at;
    part = of_step (λ (t : PartedStep). StepHolds names all_columns (contents z) t.0.via t.1) (paired walk parts) (parts_hold names z all_columns fits walk parts are) s at;
  }

  abbrev set : NodeId → List Element
  set n = set_of z.params (events_of z) n

  -- what the parts compose to along the walk between two nodes leads from the set of the one to that of the other
  over_leads : (u v : NodeId) (to_u to_v : List PartedStep) → GoApart (paired walk parts) u v to_u to_v → (d : Delta)
      → Folds (Ok d) (steps_in names [] (walk_over to_u to_v)) → applied d (set u) ≡ set v
  over_leads u v to_u to_v apart d folds =
      walk_leads names indexed.names_fit (contents z) (walk_over to_u to_v) u v (node_set z u)
      (over_each names indexed.names_fit (contents z) (paired walk parts) steps_lead u v to_u to_v apart)
      (over_chained (paired walk parts) u v to_u to_v apart) d folds

  pub step_exact : (u v : NodeId) (d : Delta) → IsStepBetween names (paired walk parts) u v d → d ≡ between (set u) (set v)
  step_exact u v d step =
      let back = apart_swapped (paired walk parts) u v step.to_u step.to_v step.apart in
      step.exact
      ∙ exact_between step.on step.back (set u) (set v) step.on_is step.back_is (node_set z u) (node_set z v)
      (over_leads u v step.to_u step.to_v step.apart step.on step.leads_on) (over_leads v u step.to_v step.to_u back step.back step.leads_back)

pub steps_are_exact : StepsAreExact
steps_are_exact names z indexed g graph none alone walk among parts are u v d step = step_exact names z indexed g graph none alone walk among parts are u v d step
