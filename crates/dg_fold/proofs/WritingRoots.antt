-- The steps of a tree's branches lead on from Root: each leaves Root or a node that a step before it enters.
use Rattle.std.proofs.Common.{◌≡◌, ◌⊎◌, inl, inr, List, [], ◌∷◌, ◌++◌, map, refl, sym, ap, subst, ◌∙◌}
use Rattle.std.specs.List.{All}
use Rattle.std.proofs.lemmas.List.{append-nil, append_assoc}
use Rattle.std.proofs.lemmas.List.Elements.{All-nil, All-cons, All-head, All-tail}
use Rattle.dg_history.specs.declared.node.NodeId.{NodeId}
use Rattle.dg_history.specs.declared.node.NodeId.TheVariants.{Root}
use Rattle.dg_plan.specs.declared.edge.Edge.{Edge}
use Rattle.dg_fold.specs.PathIndependence.{IsWalk}
use Rattle.dg_fold.specs.declared.tree_step.Stepped.{Stepped}
use Rattle.dg_fold.specs.declared.tree.Branch.{Branch}
use Rattle.dg_fold.specs.Trees.{IsAmong, Grow, LeadsToTarget, all_edges}
use Rattle.dg_fold.specs.TreeSteps.{IsAmongSteps, step_edges}
use Rattle.dg_fold.specs.WritingSteps.{IsEnteredNode, AreRooted}

-- the node is Root, or one of the edges enters it
abbrev pub IsHead : NodeId → List Edge → Type 0
IsHead n edges = (n ≡ Root) ⊎ ((e : Edge) × IsAmong e edges × (n ≡ e.to))

-- each edge leaves Root, or a node that an edge before it enters
abbrev pub Rooted : List Edge → List Edge → Type 0
Rooted before [] = Unit {0}
Rooted before (e ∷ edges) = IsHead e.from before × Rooted (before ++ e ∷ []) edges

among_front : (e : Edge) (xs ys : List Edge) → IsAmong e xs → IsAmong e (xs ++ ys)
among_front e [] ys h = absurd h
among_front e (x ∷ xs) ys (inl is) = inl is
among_front e (x ∷ xs) ys (inr h) = inr (among_front e xs ys h)

among_last : (e : Edge) (xs : List Edge) → IsAmong e (xs ++ e ∷ [])
among_last e [] = inl refl
among_last e (x ∷ xs) = inr (among_last e xs)

pub head_front : (n : NodeId) (xs ys : List Edge) → IsHead n xs → IsHead n (xs ++ ys)
head_front n xs ys (inl root) = inl root
head_front n xs ys (inr h) = inr (h.0, among_front h.0 xs ys h.1, h.2)

-- a walk from Root or a head
pub walk_rooted : (before walk : List Edge) (u v : NodeId) → IsHead u before → IsWalk u walk v → Rooted before walk × IsHead v (before ++ walk)
walk_rooted before [] u v h w = (tt, subst (λ n. IsHead n (before ++ [])) w (head_front u before [] h))
walk_rooted before (e ∷ walk) u v h w =
    let rest = walk_rooted (before ++ e ∷ []) walk e.to v (inr (e, among_last e before, refl)) w.1 in
    ((subst (λ n. IsHead n before) (sym w.0) h, rest.0), subst (IsHead v) (append_assoc before (e ∷ []) walk) rest.1)

pub rooted_append : (before xs ys : List Edge) → Rooted before xs → Rooted (before ++ xs) ys → Rooted before (xs ++ ys)
rooted_append before [] ys h k = subst (λ l. Rooted l ys) (append-nil before) k
rooted_append before (x ∷ xs) ys h k =
    (h.0, rooted_append (before ++ x ∷ []) xs ys h.1 (subst (λ l. Rooted l ys) (sym (append_assoc before (x ∷ []) xs)) k))

-- the edges of branches that grow, and the targets of these
grown : (before : List Edge) (branches : List Branch) → Grow before branches → All LeadsToTarget branches
    → Rooted before (all_edges branches) × All (λ (b : Branch). IsHead b.to (before ++ all_edges branches)) branches
grown before [] g leads = (tt, All-nil (λ (b : Branch). IsHead b.to (before ++ [])))
grown before (b ∷ branches) g leads =
    let own = walk_rooted before b.edges.items b.from b.to g.0 (All-head LeadsToTarget b branches leads) in
    let rest = grown (before ++ b.edges.items) branches g.1 (All-tail LeadsToTarget b branches leads) in
    let same = append_assoc before b.edges.items (all_edges branches) in (
      rooted_append before b.edges.items (all_edges branches) own.0 rest.0,
      All-cons (λ (c : Branch). IsHead c.to (before ++ all_edges (b ∷ branches))) b branches
          (subst (IsHead b.to) same (head_front b.to (before ++ b.edges.items) (all_edges branches) own.1))
          (subst (λ l. All (λ (c : Branch). IsHead c.to l) branches) same rest.1),
    )

-- the step of an edge
own_head : (own : List Stepped) (e : Edge) → IsAmong e (step_edges own) → (s : Stepped) × IsAmongSteps s own × (s.edge ≡ e)
own_head [] e h = absurd h
own_head (s ∷ own) e (inl is) = (s, inl refl, sym is)
own_head (s ∷ own) e (inr h) = (let rest = own_head own e h in (rest.0, inr rest.1, rest.2))

-- the same of steps
to_entered : (n : NodeId) (steps : List Stepped) → IsHead n (step_edges steps) → IsEnteredNode n steps
to_entered n steps (inl root) = inl root
to_entered n steps (inr h) =
    let s = own_head steps h.0 h.1 in
    inr (s.0, s.1, h.2 ∙ ap (λ (e : Edge). e.to) (sym s.2))

rooted_at : (before : List Edge) (front : List Stepped) (s : Stepped) (back : List Stepped) → Rooted before (step_edges (front ++ s ∷ back)) → IsHead s.edge.from (before ++ step_edges front)
rooted_at before [] s back h = subst (IsHead s.edge.from) (sym (append-nil before)) h.0
rooted_at before (t ∷ front) s back h =
    subst (IsHead s.edge.from) (append_assoc before (t.edge ∷ []) (step_edges front)) (rooted_at (before ++ t.edge ∷ []) front s back h.1)

pub are_rooted : (branches : List Branch) (steps : List Stepped) → step_edges steps ≡ all_edges branches → Grow [] branches → All LeadsToTarget branches → AreRooted steps
are_rooted branches steps same grow leads front s back is =
    to_entered s.edge.from front
    (rooted_at [] front s back (subst (λ (l : List Stepped). Rooted [] (step_edges l)) is (subst (Rooted []) (sym same) (grown [] branches grow leads).0)))

targets_entered : (all : List Stepped) (branches : List Branch) → All (λ (b : Branch). IsHead b.to (step_edges all)) branches → All (λ n. IsEnteredNode n all) (map (λ (b : Branch). b.to) branches)
targets_entered all [] h = All-nil (λ n. IsEnteredNode n all)
targets_entered all (b ∷ branches) h =
    All-cons (λ n. IsEnteredNode n all) b.to (map (λ (c : Branch). c.to) branches)
    (to_entered b.to all (All-head (λ (c : Branch). IsHead c.to (step_edges all)) b branches h))
    (targets_entered all branches (All-tail (λ (c : Branch). IsHead c.to (step_edges all)) b branches h))

pub are_entered : (branches : List Branch) (steps : List Stepped) → step_edges steps ≡ all_edges branches → Grow [] branches → All LeadsToTarget branches
    → All (λ n. IsEnteredNode n steps) (map (λ (b : Branch). b.to) branches)
are_entered branches steps same grow leads =
    targets_entered steps branches (subst (λ l. All (λ (b : Branch). IsHead b.to l) branches) (sym same) (grown [] branches grow leads).1)
