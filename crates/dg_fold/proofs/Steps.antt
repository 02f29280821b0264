-- How the steps of a branch get their deltas, one after another.
use Rattle.std.proofs.Common.{◌≡◌, ◌<◌, ◌+◌, ℕ, Bool, true, false, cond, List, [], ◌∷◌, ◌++◌, length, get_or, drop, Option, None, Ok, Err, slice_get, refl, sym, ap, subst, ◌∙◌, arith}
use Rattle.std.proofs.lemmas.List.{append_assoc, append-nil, drop_more, drop_all}
use Rattle.dg_graph.specs.declared.event.Event.{Event}
use Rattle.dg_graph.specs.Composition.{Delta}
use Rattle.dg_plan.specs.declared.edge.Edge.{Edge}
use Rattle.dg_fold.specs.declared.fault.FoldFault.{FoldFault}
use Rattle.dg_fold.specs.declared.fault.FoldFault.TheVariants as fault
use Rattle.dg_fold.specs.declared.part.Part.{Part}
use Rattle.dg_plan.specs.declared.edge.Via.{Via}
use Rattle.dg_plan.specs.declared.edge.Via.TheVariants as via
use Rattle.dg_fold.specs.Parts.{beside, Folds}
use Rattle.dg_fold.specs.Steps.{PartedStep, names_record, paired, step_by, steps_in}
use Rattle.dg_fold.specs.declared.tree_step.Stepped.{Stepped}
use Rattle.dg_fold.specs.TreeSteps.{AreStepped, FailsAt, step_edges}
use Rattle.dg_fold.proofs.TreeStepPaths.{Due, beside_associates}

-- What is known when so many edges have been gone over.
pub record Going (names : ℕ) (recent : List Event) (edges : List Edge) (parts : List Part) (i : ℕ) (rest : List Part) (steps : List Stepped) : Type 0 where
  pub done : List PartedStep
  pub front : paired edges parts ≡ done ++ paired (drop i edges) rest
  pub stepped : AreStepped names recent done steps

abbrev pub part_of : Via → List Part → Option Part
part_of v rest = cond (names_record v) (slice_get rest 0) None

-- the first edge takes its part, and the others go on with the rest
pub paired_first : (e : Edge) (edges : List Edge) (rest : List Part) → paired (e ∷ edges) rest ≡ (e, part_of e.via rest) ∷ paired edges (cond (names_record e.via) (drop 1 rest) rest)
paired_first e edges rest = by (names_record e.via)
  where
    by : (b : Bool) → cond b ((e, slice_get rest 0) ∷ paired edges (drop 1 rest)) ((e, None) ∷ paired edges rest)
        ≡ (e, cond b (slice_get rest 0) None) ∷ paired edges (cond b (drop 1 rest) rest)
    by true = refl
    by false = refl

-- what an edge does by its own part
step_is : (names : ℕ) (recent : List Event) (v : Via) (rest : List Part) → step_by names recent v (part_of v rest) ≡ step_by names recent v (slice_get rest 0)
step_is names recent via.Now rest = refl
step_is names recent (via.Base handle) rest = refl
step_is names recent (via.Paid key way) rest = refl
step_is names recent (via.Held key way) rest = refl
step_is names recent (via.Recent way) rest = refl

stepped_more : (names : ℕ) (recent : List Event) (done : List PartedStep) (steps : List Stepped) (t : PartedStep) (s : Stepped)
    → AreStepped names recent done steps → s.edge ≡ t.0 → Folds (Ok s.delta) (step_by names recent t.0.via t.1) → AreStepped names recent (done ++ t ∷ []) (steps ++ s ∷ [])
stepped_more names recent [] [] t s h e f = (e, f, tt)
stepped_more names recent [] (r ∷ steps) t s h e f = absurd h
stepped_more names recent (q ∷ done) [] t s h e f = absurd h
stepped_more names recent (q ∷ done) (r ∷ steps) t s h e f = (h.0, h.1, stepped_more names recent done steps t s h.2 e f)

module _ (names : ℕ) (recent : List Event) (edges : List Edge) (parts : List Part) (i : ℕ) (rest : List Part) (steps : List Stepped) (d : Edge) where
  abbrev pub e : Edge
  e = get_or edges i d

  at_next : Going names recent edges parts i rest steps → i < length edges
      → paired (drop i edges) rest ≡ (e, part_of e.via rest) ∷ paired (drop (i + 1) edges) (cond (names_record e.via) (drop 1 rest) rest)
  at_next g h =
      ap (λ l. paired l rest) (drop_more edges i d h) ∙ paired_first e (drop (i + 1) edges) rest

  pub going_on : (delta : Delta) (next : List Part) (new : List Stepped) → Going names recent edges parts i rest steps → i < length edges
      → Folds (Ok delta) (step_by names recent e.via (slice_get rest 0)) → next ≡ cond (names_record e.via) (drop 1 rest) rest
      → new ≡ steps ++ record { edge = e; delta = delta } ∷ [] → Going names recent edges parts (i + 1) next new
  going_on delta next new g h folds behind grown =
      let t : PartedStep = (e, part_of e.via rest) in
      let s : Stepped = record { edge = e; delta = delta } in
      record {
        done = g.done ++ t ∷ [];
        front = g.front ∙ ap (λ l. g.done ++ l) (at_next g h ∙ ap (λ r. t ∷ paired (drop (i + 1) edges) r) (sym behind))
            ∙ sym (append_assoc g.done (t ∷ []) (paired (drop (i + 1) edges) next));
        stepped = subst (AreStepped names recent (g.done ++ t ∷ [])) (sym grown)
            (stepped_more names recent g.done steps t s g.stepped refl (subst (Folds (Ok delta)) (sym (step_is names recent e.via rest)) folds));
      }

pub done_in : (names : ℕ) (recent : List Event) (done : List PartedStep) (steps : List Stepped) → AreStepped names recent done steps → (list : List Delta) × (steps_in names recent done ≡ Ok list)
done_in names recent [] [] h = ([], refl)
done_in names recent [] (s ∷ steps) h = absurd h
done_in names recent (t ∷ done) [] h = absurd h
done_in names recent (t ∷ done) (s ∷ steps) h =
    let rest = done_in names recent done steps h.2 in
    (h.1.0 ++ rest.0, (λ i. beside (h.1.1 i) (rest.1 i)))

steps_cut : (names : ℕ) (recent : List Event) (xs ys : List PartedStep) → steps_in names recent (xs ++ ys) ≡ beside (steps_in names recent xs) (steps_in names recent ys)
steps_cut names recent [] ys = empty (steps_in names recent ys)
  where
    empty : (a : Due) → a ≡ beside (Ok []) a
    empty (Ok list) = refl
    empty (Err f) = refl
steps_cut names recent (t ∷ xs) ys =
    let due = step_by names recent t.0.via t.1 in
    ap (beside due) (steps_cut names recent xs ys) ∙ sym (beside_associates due (steps_in names recent xs) (steps_in names recent ys))

-- the first damage is that of the next edge
pub fails_next : (names : ℕ) (recent : List Event) (edges : List Edge) (parts : List Part) (i : ℕ) (rest : List Part) (steps : List Stepped) (d : Edge) (f : FoldFault)
    → Going names recent edges parts i rest steps → i < length edges
    → Folds (Err f) (step_by names recent (get_or edges i d).via (slice_get rest 0)) → FailsAt f names recent (paired edges parts)
fails_next names recent edges parts i rest steps d (fault.Damaged k col) g h fails =
    let e = get_or edges i d in
    let t : PartedStep = (e, part_of e.via rest) in
    let more = paired (drop (i + 1) edges) (cond (names_record e.via) (drop 1 rest) rest) in
    let done = done_in names recent g.done steps g.stepped in
    ap (steps_in names recent) (g.front ∙ ap (λ l. g.done ++ l) (at_next names recent edges parts i rest steps d g h))
    ∙ steps_cut names recent g.done (t ∷ more)
    ∙ ap (λ a. beside a (steps_in names recent (t ∷ more))) done.1
    ∙ ap (λ a. beside (Ok done.0) (beside a (steps_in names recent more))) (step_is names recent e.via rest ∙ fails)
fails_next names recent edges parts i rest steps d fault.Memory g h fails = tt

pub all_stepped : (names : ℕ) (recent : List Event) (edges : List Edge) (parts : List Part) (rest : List Part) (steps : List Stepped) (i : ℕ) → length edges ≡ i
    → Going names recent edges parts i rest steps → AreStepped names recent (paired edges parts) steps
all_stepped names recent edges parts rest steps i end g =
    let none : drop i edges ≡ [] = drop_all i edges (omega arith) in
    subst (λ l. AreStepped names recent l steps) (sym (g.front ∙ ap (λ l. g.done ++ paired l rest) none ∙ append-nil g.done)) g.stepped

-- the edges of steps that have their deltas
pub stepped_edges : (names : ℕ) (recent : List Event) (edges : List Edge) (parts : List Part) (steps : List Stepped) → AreStepped names recent (paired edges parts) steps → step_edges steps ≡ edges
stepped_edges names recent [] parts [] h = refl
stepped_edges names recent [] parts (s ∷ steps) h = absurd h
stepped_edges names recent (e ∷ edges) parts steps h =
    by (names_record e.via) steps (λ ps st k. stepped_edges names recent edges ps st k) h
  where
    by : (b : Bool) (st : List Stepped)
        → ((ps : List Part) (after : List Stepped) → AreStepped names recent (paired edges ps) after → step_edges after ≡ edges)
        → AreStepped names recent (cond b ((e, slice_get parts 0) ∷ paired edges (drop 1 parts)) ((e, None) ∷ paired edges parts)) st → step_edges st ≡ e ∷ edges
    by true [] again k = absurd k
    by true (s ∷ st) again k = (let rest = again (drop 1 parts) st k.2 in λ i. k.0 i ∷ rest i)
    by false [] again k = absurd k
    by false (s ∷ st) again k = (let rest = again parts st k.2 in λ i. k.0 i ∷ rest i)
