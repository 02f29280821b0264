-- Path independence along the paths of a tree.
use Rattle.std.proofs.Common.{◌≡◌, inl, inr, List, [], ◌∷◌, ◌++◌, map, refl, sym, ap, subst, ◌∙◌}
use Rattle.std.specs.List.{All}
use Rattle.std.proofs.lemmas.List.{map-append}
use Rattle.std.proofs.lemmas.List.Elements.{All-nil, All-cons, All-head, All-tail, All-push}
use Rattle.dg_history.specs.declared.node.NodeId.{NodeId}
use Rattle.dg_history.specs.declared.node.NodeId.TheVariants.{Root}
use Rattle.dg_graph.specs.Composition.{composition}
use Rattle.dg_graph.specs.Elements.{shown}
use Rattle.dg_plan.specs.declared.edge.Edge.{Edge}
use Rattle.dg_fold.specs.Steps.{PartedStep, StepHolds, IsPartedWalk}
use Rattle.dg_fold.specs.PathIndependence.{IsSoundEdge, IsWalk}
use Rattle.dg_fold.proofs.PathIndependencePlans.{plans_lead, plans_reach}
use Rattle.dg_fold.specs.Ends.{last_in, TreesReach}
use Rattle.dg_fold.specs.Trees.{IsStepOf, PathIn, Begins_at_root, Steps_on, TreesLead}

abbrev pub walk_of : List PartedStep → List Edge
walk_of steps = map (λ s. s.0) steps

walk_more : (walk : List Edge) (e : Edge) (u v : NodeId) → IsWalk u walk v → e.from ≡ v → IsWalk u (walk ++ e ∷ []) e.to
walk_more [] e u v w is = (is ∙ sym w, refl)
walk_more (a ∷ walk) e u v w is = (w.0, walk_more walk e a.to v w.1 is)

path_walks : (all : List PartedStep) (node : NodeId) (walk : List PartedStep) → PathIn all node walk → IsWalk Root (walk_of walk) node
path_walks all node walk Begins_at_root = refl
path_walks all node walk (Steps_on s before here path) =
    subst (λ l. IsWalk Root l s.0.to) (sym (map-append (λ (t : PartedStep). t.0) before (s ∷ [])))
    (walk_more (walk_of before) s.0 Root s.0.from (path_walks all s.0.from before path) refl)

there : (P : PartedStep → Type 0) (all : List PartedStep) (s : PartedStep) → All P all → IsStepOf s all → P s
there P [] s h here = absurd here
there P (t ∷ all) s h (inl is) = subst P (sym is) (All-head P t all h)
there P (t ∷ all) s h (inr here) = there P all s (All-tail P t all h) here

along : (P : PartedStep → Type 0) (all : List PartedStep) → All P all → (node : NodeId) (walk : List PartedStep) → PathIn all node walk → All P walk
along P all h node walk Begins_at_root = All-nil P
along P all h node walk (Steps_on s before here path) = All-push P before s (along P all h s.0.from before path) (there P all s h here)

-- a fact of the first of each, as one of the pairs
of_edges : (P : Edge → Type 0) (all : List PartedStep) → All P (walk_of all) → All (λ s. P s.0) all
of_edges P [] h = All-nil (λ (s : PartedStep). P s.0)
of_edges P (s ∷ all) h = All-cons (λ (t : PartedStep). P t.0) s all (All-head P s.0 (walk_of all) h) (of_edges P all (All-tail P s.0 (walk_of all) h))

to_edges : (P : Edge → Type 0) (all : List PartedStep) → All (λ s. P s.0) all → All P (walk_of all)
to_edges P [] h = All-nil P
to_edges P (s ∷ all) h = All-cons P s.0 (walk_of all) (All-head (λ (t : PartedStep). P t.0) s all h) (to_edges P all (All-tail (λ (t : PartedStep). P t.0) s all h))

pub trees_lead : TreesLead
trees_lead names few cols x sets all sound holds node d led set begins =
    let walk = led.0 in
    let edges = to_edges (IsSoundEdge x) walk (along (λ s. IsSoundEdge x s.0) all (of_edges (IsSoundEdge x) all sound) node walk led.1) in
    let parts = along (λ s. StepHolds names cols x s.0.via s.1) all holds node walk led.1 in
    let plan : IsPartedWalk names cols x Root walk node =
    record { names_fit = few; sets = sets; sound = edges; walk = path_walks all node walk led.1; parts = parts } in
    let leads = plans_lead names cols x Root walk node plan in
    let same : led.2.0 ≡ leads.0 = cc (led.2.1, leads.1) in
    leads.2 d (λ y. led.2.2 y ∙ ap (λ l. composition l y) same) set begins

pub trees_reach : TreesReach
trees_reach names few cols x sets all sound holds part_list node t begun d led first next last at f l goes set is_set alike =
    let walk = led.0 in
    let edges = to_edges (IsSoundEdge x) walk (along (λ s. IsSoundEdge x s.0) all (of_edges (IsSoundEdge x) all sound) node walk led.1) in
    let parts = along (λ s. StepHolds names cols x s.0.via s.1) all holds node walk led.1 in
    let plan : IsPartedWalk names cols x Root walk node =
    record { names_fit = few; sets = sets; sound = edges; walk = path_walks all node walk led.1; parts = parts } in
    let reach = plans_reach names cols x Root walk node plan first next last t at f l (last_in names x.recent part_list node t) goes in
    let same : led.3.0 ≡ reach.0 = cc (led.3.1, reach.1) in
    reach.2 d (λ y. led.3.2 y ∙ ap (λ l. composition l y) same) set (is_set, alike ∙ ap (λ n. shown (x.set n) cols) (sym led.2))
