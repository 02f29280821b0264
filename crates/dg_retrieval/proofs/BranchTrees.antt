-- The branches of a tree of plans: what each leads to, where it begins, and which edges they have together.
use Rattle.std.proofs.Common.{◌≡◌, ℕ, zero, suc, ◌+◌, ◌<◌, List as ListOf, [], ◌∷◌, ◌++◌, map, length, Option, Some, None, refl, sym, ap, subst, ◌∙◌, arith, take, append_assoc, inl, inr, ⊎_elim}
use Rattle.std.specs.Prelude.{◌⊎◌, slice_get, get_or}
use Rattle.std.specs.Option.{option_map, option_to_list}
use Rattle.std.specs.List.{All, Contains}
use Rattle.std.proofs.lemmas.List.{append-nil, take_more}
use Rattle.std.proofs.lemmas.List.Elements.{All-cons, All-nil, Contains-append_cases}
use Rattle.std.proofs.lemmas.Option.{same_Some, slice_get-map, slice_get_within, get_or_from_slice_get}
use Rattle.dg_history.specs.declared.node.NodeId.{NodeId}
use Rattle.dg_history.specs.declared.node.NodeId.TheVariants.{Root}
use Rattle.dg_plan.specs.declared.edge.Edge.{Edge}
use Rattle.dg_plan.specs.IndexGraph.{arc_of, arcs_of}
use Rattle.dg_plan.specs.Walks.{Arc, Graft, IsTree, Leads, entered, steps_of}
use Rattle.dg_fold.specs.declared.tree.Branch.{Branch}
use Rattle.dg_fold.specs.PathIndependence.{IsWalk}
use Rattle.dg_plan.specs.TreePaths.{edges_at}
use Rattle.dg_fold.specs.Trees.{Grow, IsAmong, LeadsToTarget, all_edges}
use Rattle.dg_retrieval.specs.Branches.{AreBranches, IsBranch}

-- ---- the edges of a row of steps

-- the edge at an index
pub at_index : (P : Edge → Type 0) (edges : ListOf Edge) (i : ℕ) (e : Edge) → All P edges → slice_get edges i ≡ Some e → P e
at_index P edges i e all is = subst P (get_or_from_slice_get edges i e e is) (all i e (slice_get_within edges i e is))

-- what holds of all edges holds of those of the steps
pub all_at : (P : Edge → Type 0) (edges : ListOf Edge) (steps : ListOf ℕ) → All P edges → All P (edges_at edges steps)
all_at P edges [] all = All-nil P
all_at P edges (i ∷ steps) all = by (all_at P edges steps all) (slice_get edges i) refl
  where
    by : All P (edges_at edges steps) → (o : Option Edge) → slice_get edges i ≡ o → All P (option_to_list o ++ edges_at edges steps)
    by rest None is = rest
    by rest (Some e) is = All-cons P e (edges_at edges steps) (at_index P edges i e all is) rest

pub edges_at-append : (edges : ListOf Edge) (xs ys : ListOf ℕ) → edges_at edges (xs ++ ys) ≡ edges_at edges xs ++ edges_at edges ys
edges_at-append edges [] ys = refl
edges_at-append edges (i ∷ xs) ys =
    ap (λ t. option_to_list (slice_get edges i) ++ t) (edges_at-append edges xs ys)
    ∙ sym (append_assoc (option_to_list (slice_get edges i)) (edges_at edges xs) (edges_at edges ys))

-- with the edge of one step more
pub edges_at_more : (edges : ListOf Edge) (steps : ListOf ℕ) (now next : ListOf Edge) (i : ℕ) → i < length steps → now ≡ edges_at edges (take i steps)
    → next ≡ now ++ option_to_list (slice_get edges (get_or steps i 0)) → next ≡ edges_at edges (take (i + 1) steps)
edges_at_more edges steps now next i within so_far is =
    let one : ListOf Edge = option_to_list (slice_get edges (get_or steps i 0)) in
    is ∙ ap (λ t. t ++ one) so_far ∙ ap (λ t. edges_at edges (take i steps) ++ t) (sym (append-nil one))
    ∙ sym (edges_at-append edges (take i steps) (get_or steps i 0 ∷ [])) ∙ sym (ap (edges_at edges) (take_more steps i 0 within))

-- the nodes that the steps enter are the heads of their edges
pub entered_heads : (edges : ListOf Edge) (steps : ListOf ℕ) → entered (arcs_of edges) steps ≡ map (λ (e : Edge). e.to) (edges_at edges steps)
entered_heads edges [] = refl
entered_heads edges (i ∷ steps) =
    ap (λ o. option_to_list (option_map (λ (x : Arc NodeId). x.to) o) ++ entered (arcs_of edges) steps) (slice_get-map arc_of edges i) ∙ by (entered_heads edges steps) (slice_get edges i)
  where
    by : entered (arcs_of edges) steps ≡ map (λ (e : Edge). e.to) (edges_at edges steps) → (o : Option Edge) → option_to_list (option_map (λ (x : Arc NodeId). x.to) (option_map arc_of o)) ++ entered (arcs_of edges) steps ≡ map (λ (e : Edge). e.to) (option_to_list o ++ edges_at edges steps)
    by rest None = rest
    by rest (Some e) = ap (λ t. e.to ∷ t) rest

-- ---- the branches

-- steps by the numbers of edges are a walk of these edges
pub steps_walk : (edges : ListOf Edge) (steps : ListOf ℕ) (a b : NodeId) → Leads (arcs_of edges) a steps b → IsWalk a (edges_at edges steps) b
steps_walk edges [] a b w = w
steps_walk edges (i ∷ steps) a b w = by (steps_walk edges steps w.0.to b w.3) (slice_get edges i) refl
  where
    by : IsWalk w.0.to (edges_at edges steps) b → (o : Option Edge) → slice_get edges i ≡ o → IsWalk a (option_to_list o ++ edges_at edges steps) b
    by rest None is = absurd (let none : None ≡ Some w.0 = sym (slice_get-map arc_of edges i ∙ ap (option_map arc_of) is) ∙ w.1 in cc)
    by rest (Some e) is =
        let same : arc_of e ≡ w.0 = same_Some _ _ (sym (slice_get-map arc_of edges i ∙ ap (option_map arc_of) is) ∙ w.1) in (
          ap (λ (x : Arc NodeId). x.from) same ∙ w.2,
          subst (λ n. IsWalk n (edges_at edges steps) b) (sym (ap (λ (x : Arc NodeId). x.to) same)) rest,
        )

-- one more branch
pub branches_more : (edges : ListOf Edge) (targets : ListOf NodeId) (grafts : ListOf (Graft NodeId)) (branches : ListOf Branch) (v : NodeId) (x : Graft NodeId) (b : Branch)
    → AreBranches edges targets grafts branches → IsBranch edges v x b → AreBranches edges (targets ++ v ∷ []) (grafts ++ x ∷ []) (branches ++ b ∷ [])
branches_more edges [] [] [] v x b are is = (is, tt)
branches_more edges [] [] (c ∷ branches) v x b are is = elim are [ ]
branches_more edges [] (y ∷ grafts) branches v x b are is = elim are [ ]
branches_more edges (u ∷ targets) [] branches v x b are is = elim are [ ]
branches_more edges (u ∷ targets) (y ∷ grafts) [] v x b are is = elim are [ ]
branches_more edges (u ∷ targets) (y ∷ grafts) (c ∷ branches) v x b are is = (are.0, branches_more edges targets grafts branches v x b are.1 is)

pub branches_many : (edges : ListOf Edge) (targets : ListOf NodeId) (grafts : ListOf (Graft NodeId)) (branches : ListOf Branch) → AreBranches edges targets grafts branches
    → (length branches ≡ length targets) × (length branches ≡ length grafts)
branches_many edges [] [] [] are = (refl, refl)
branches_many edges [] [] (c ∷ branches) are = elim are [ ]
branches_many edges [] (y ∷ grafts) branches are = elim are [ ]
branches_many edges (u ∷ targets) [] branches are = elim are [ ]
branches_many edges (u ∷ targets) (y ∷ grafts) [] are = elim are [ ]
branches_many edges (u ∷ targets) (y ∷ grafts) (c ∷ branches) are =
    let rest = branches_many edges targets grafts branches are.1 in
    (ap (λ n. suc n) rest.0, ap (λ n. suc n) rest.1)

-- each branch leads from its node to its target
pub branches_lead : (edges : ListOf Edge) (tree targets : ListOf NodeId) (grafts : ListOf (Graft NodeId)) (branches : ListOf Branch)
    → IsTree (arcs_of edges) tree targets grafts → AreBranches edges targets grafts branches → All LeadsToTarget branches
branches_lead edges tree [] [] [] t are = All-nil LeadsToTarget
branches_lead edges tree [] [] (c ∷ branches) t are = elim are [ ]
branches_lead edges tree [] (y ∷ grafts) branches t are = elim are [ ]
branches_lead edges tree (u ∷ targets) [] branches t are = elim are [ ]
branches_lead edges tree (u ∷ targets) (y ∷ grafts) [] t are = elim are [ ]
branches_lead edges tree (u ∷ targets) (y ∷ grafts) (c ∷ branches) t are =
    let walk : IsWalk y.from (edges_at edges y.steps) u = steps_walk edges y.steps y.from u t.2 in
    All-cons LeadsToTarget c branches (subst (λ n. IsWalk n c.edges.items c.to) (sym are.0.from)
    (subst (λ (s : ListOf Edge). IsWalk y.from s c.to) (sym are.0.steps) (subst (IsWalk y.from (edges_at edges y.steps)) (sym are.0.to) walk)))
    (branches_lead edges (tree ++ entered (arcs_of edges) y.steps) targets grafts branches t.3 are.1)

-- the edges of the branches are those of the tree's steps
pub branches_hold : (edges : ListOf Edge) (targets : ListOf NodeId) (grafts : ListOf (Graft NodeId)) (branches : ListOf Branch) → AreBranches edges targets grafts branches
    → all_edges branches ≡ edges_at edges (steps_of grafts)
branches_hold edges [] [] [] are = refl
branches_hold edges [] [] (c ∷ branches) are = elim are [ ]
branches_hold edges [] (y ∷ grafts) branches are = elim are [ ]
branches_hold edges (u ∷ targets) [] branches are = elim are [ ]
branches_hold edges (u ∷ targets) (y ∷ grafts) [] are = elim are [ ]
branches_hold edges (u ∷ targets) (y ∷ grafts) (c ∷ branches) are =
    (λ i. are.0.steps i ++ branches_hold edges targets grafts branches are.1 i) ∙ sym (edges_at-append edges y.steps (steps_of grafts))

-- ---- they grow

-- the node is the root, or one of the edges enters it
abbrev IsThere : ListOf Edge → NodeId → Type 0
IsThere done n = (n ≡ Root) ⊎ ((e : Edge) × IsAmong e done × (n ≡ e.to))

among_left : (e : Edge) (xs ys : ListOf Edge) → IsAmong e xs → IsAmong e (xs ++ ys)
among_left e [] ys a = elim a [ ]
among_left e (x ∷ xs) ys (inl is) = inl is
among_left e (x ∷ xs) ys (inr a) = inr (among_left e xs ys a)

among_right : (e : Edge) (xs ys : ListOf Edge) → IsAmong e ys → IsAmong e (xs ++ ys)
among_right e [] ys a = a
among_right e (x ∷ xs) ys a = inr (among_right e xs ys a)

there_left : (xs ys : ListOf Edge) (n : NodeId) → IsThere xs n → IsThere (xs ++ ys) n
there_left xs ys n (inl root) = inl root
there_left xs ys n (inr head) = inr (head.0, among_left head.0 xs ys head.1, head.2)

-- a head of one of the edges
head_of : (edges : ListOf Edge) (n : NodeId) → Contains (map (λ (e : Edge). e.to) edges) n → (e : Edge) × IsAmong e edges × (n ≡ e.to)
head_of [] n c = absurd (let h = c.1 in omega arith)
head_of (x ∷ edges) n c = by (head_of edges n) c.0 c.1 c.2
  where
    by : (Contains (map (λ (e : Edge). e.to) edges) n → (e : Edge) × IsAmong e edges × (n ≡ e.to)) → (k : ℕ) → k < suc (length (map (λ (e : Edge). e.to) edges)) → get_or (x.to ∷ map (λ (e : Edge). e.to) edges) k n ≡ n → (e : Edge) × IsAmong e (x ∷ edges) × (n ≡ e.to)
    by rest zero within is = (x, inl refl, sym is)
    by rest (suc k) within is = let r = rest (k, omega arith, is) in (r.0, inr r.1, r.2)

grow_from : (edges : ListOf Edge) (tree targets : ListOf NodeId) (grafts : ListOf (Graft NodeId)) (branches : ListOf Branch) (done : ListOf Edge)
    → ((n : NodeId) → Contains tree n → IsThere done n) → IsTree (arcs_of edges) tree targets grafts → AreBranches edges targets grafts branches → Grow done branches
grow_from edges tree [] [] [] done stand t are = tt
grow_from edges tree [] [] (c ∷ branches) done stand t are = elim are [ ]
grow_from edges tree [] (y ∷ grafts) branches done stand t are = elim are [ ]
grow_from edges tree (u ∷ targets) [] branches done stand t are = elim are [ ]
grow_from edges tree (u ∷ targets) (y ∷ grafts) [] done stand t are = elim are [ ]
grow_from edges tree (u ∷ targets) (y ∷ grafts) (c ∷ branches) done stand t are = (
  subst (IsThere done) (sym are.0.from) (stand y.from t.1),
  grow_from edges (tree ++ entered (arcs_of edges) y.steps) targets grafts branches (done ++ c.edges.items) more t.3 are.1,
)
  where
    more : (n : NodeId) → Contains (tree ++ entered (arcs_of edges) y.steps) n → IsThere (done ++ c.edges.items) n
    more n there =
        ⊎_elim (λ (old : Contains tree n). there_left done c.edges.items n (stand n old))
        (λ (new : Contains (entered (arcs_of edges) y.steps) n).
        let head = head_of (edges_at edges y.steps) n (subst (λ (ns : ListOf NodeId). Contains ns n) (entered_heads edges y.steps) new) in
        inr (head.0, among_right head.0 done c.edges.items (subst (IsAmong head.0) (sym are.0.steps) head.1), head.2))
        (Contains-append_cases tree (entered (arcs_of edges) y.steps) n there)

-- each branch of a tree begins at the root, or at a node that an edge of a branch before it enters
pub branches_grow : (edges : ListOf Edge) (targets : ListOf NodeId) (grafts : ListOf (Graft NodeId)) (branches : ListOf Branch)
    → IsTree (arcs_of edges) (Root ∷ []) targets grafts → AreBranches edges targets grafts branches → Grow [] branches
branches_grow edges targets grafts branches t are = grow_from edges (Root ∷ []) targets grafts branches [] root t are
  where
    root : (n : NodeId) → Contains (Root ∷ []) n → IsThere [] n
    root n there = by there.0 there.1 there.2
      where
        by : (k : ℕ) → k < 1 → get_or (Root ∷ []) k n ≡ n → IsThere [] n
        by zero within is = inl (sym is)
        by (suc k) within is = absurd (omega arith)
