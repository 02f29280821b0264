-- A path by the deltas of the steps is one by the steps.
use Rattle.std.proofs.Common.{◌≡◌, inl, inr, ℕ, List, [], ◌∷◌, ◌++◌, map, Result, Ok, Err, refl, sym, ap, subst, ◌∙◌}
use Rattle.std.proofs.lemmas.List.{append_assoc, append-nil, map-append}
use Rattle.dg_graph.specs.declared.element.Column.{Column}
use Rattle.dg_graph.specs.declared.element.Element.{Element}
use Rattle.dg_graph.specs.declared.event.Event.{Event}
use Rattle.dg_history.specs.declared.node.Key.{Key}
use Rattle.dg_history.specs.declared.node.NodeId.{NodeId}
use Rattle.dg_history.specs.declared.node.NodeId.TheVariants.{Root}
use Rattle.dg_graph.specs.Composition.{Delta, Composes, composition, then_says}
use Rattle.dg_delta.proofs.Deltas.{can_be_cut}
use Rattle.dg_plan.specs.declared.edge.Edge.{Edge}
use Rattle.dg_fold.specs.PathIndependence.{begun_at}
use Rattle.dg_fold.specs.Parts.{beside, Folds}
use Rattle.dg_fold.specs.Steps.{PartedStep, step_by, steps_in}
use Rattle.dg_fold.specs.declared.tree_step.Stepped.{Stepped}
use Rattle.dg_fold.specs.Trees.{IsStepOf, PathIn, Begins_at_root, Steps_on}
use Rattle.dg_fold.specs.TreeSteps.{IsAmongSteps, Path, Begins, Goes_on, AreStepped, step_edges, step_deltas}

abbrev pub Due : Type 0
Due = Result (List Delta) (Key × Column)

beside_swap : (a : Due) → beside a (Ok []) ≡ beside (Ok []) a
beside_swap (Ok list) = ap (λ l. Ok l) (append-nil list)
beside_swap (Err f) = refl

pub beside_associates : (a b c : Due) → beside (beside a b) c ≡ beside a (beside b c)
beside_associates (Ok xs) (Ok ys) (Ok zs) = ap (λ l. Ok l) (append_assoc xs ys zs)
beside_associates (Ok xs) (Ok ys) (Err f) = refl
beside_associates (Ok xs) (Err f) c = refl
beside_associates (Err f) b c = refl

module _ (names : ℕ) (recent : List Event) where
  abbrev pub due_of : PartedStep → Due
  due_of t = step_by names recent t.0.via t.1

  -- the step of a delta
  step_of : (all : List PartedStep) (steps : List Stepped) → AreStepped names recent all steps → (s : Stepped) → IsAmongSteps s steps
      → (t : PartedStep) × IsStepOf t all × (s.edge ≡ t.0) × Folds (Ok s.delta) (due_of t)
  step_of [] [] h s here = absurd here
  step_of [] (r ∷ steps) h s here = absurd h
  step_of (t ∷ all) [] h s here = absurd h
  step_of (t ∷ all) (r ∷ steps) h s (inl is) =
      (t, inl refl, ap (λ (z : Stepped). z.edge) is ∙ h.0, subst (λ (z : Stepped). Folds (Ok z.delta) (due_of t)) (sym is) h.1)
  step_of (t ∷ all) (r ∷ steps) h s (inr there) =
      let rest = step_of all steps h.2 s there in
      (rest.0, inr rest.1, rest.2, rest.3)

  cut : (walk : List PartedStep) (t : PartedStep) → steps_in names recent (walk ++ t ∷ []) ≡ beside (steps_in names recent walk) (due_of t)
  cut [] t = beside_swap (due_of t)
  cut (s ∷ walk) t =
      ap (beside (due_of s)) (cut walk t) ∙ sym (beside_associates (due_of s) (steps_in names recent walk) (due_of t))

  -- a path by these steps, as one by those
  path_in : (all : List PartedStep) (steps : List Stepped) → AreStepped names recent all steps → (node : NodeId) (own : List Stepped) → Path steps node own
      → (walk : List PartedStep) × PathIn all node walk × (map (λ (t : PartedStep). t.0) walk ≡ step_edges own)
      × (dues : List Delta) × (steps_in names recent walk ≡ Ok dues) × ((x : Element) → composition (step_deltas own) x ≡ composition dues x)
  path_in all steps h node own Begins = ([], Begins_at_root, refl, [], refl, λ x. refl)
  path_in all steps h node own (Goes_on s before here path) =
      let front = path_in all steps h s.edge.from before path in
      let t = step_of all steps h s here in
      let next = t.3 in
      let same = sym t.2 in (
        front.0 ++ t.0 ∷ [],
        subst (λ n. PathIn all n (front.0 ++ t.0 ∷ [])) (ap (λ (e : Edge). e.to) (sym t.2))
            (Steps_on t.0 front.0 t.1 (subst (λ (e : Edge). PathIn all e.from front.0) t.2 front.1)),
        map-append (λ (r : PartedStep). r.0) front.0 (t.0 ∷ []) ∙ (λ i. front.2 i ++ same i ∷ []) ∙ sym (map-append (λ (r : Stepped). r.edge) before (s ∷ [])),
        front.3 ++ next.0,
        cut front.0 t.0 ∙ (λ i. beside (front.4 i) (next.1 i)),
        λ x.
            ap (λ l. composition l x) (map-append (λ (r : Stepped). r.delta) before (s ∷ []))
            ∙ can_be_cut (step_deltas before) (s.delta ∷ []) x
            ∙ (λ i. then_says (front.5 x i) (next.2 x i))
            ∙ sym (can_be_cut front.3 next.0 x),
      )

-- it begins with the same set, and what its parts compose to is what the deltas do
pub path_leads : (names : ℕ) (recent : List Event) (all : List PartedStep) (steps : List Stepped) → AreStepped names recent all steps → (node : NodeId) (own : List Stepped) → Path steps node own
    → (d : Delta) → Composes d (step_deltas own)
    → (walk : List PartedStep) × PathIn all node walk × (begun_at Root (map (λ (t : PartedStep). t.0) walk) ≡ begun_at Root (step_edges own)) × Folds (Ok d) (steps_in names recent walk)
path_leads names recent all steps h node own path d composes =
    let p = path_in names recent all steps h node own path in
    (p.0, p.1, ap (begun_at Root) p.2, (p.3, p.4, λ x. composes x ∙ p.5 x))
