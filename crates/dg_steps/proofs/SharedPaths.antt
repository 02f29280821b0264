-- The paths to two nodes of a tree go together at first, and then apart.
use Rattle.std.proofs.Common.{◌≡◌, ◌≢◌, inl, inr, ◌&&◌, Bool, true, false, cond, not, ℕ, List, [], ◌∷◌, ◌++◌, map, refl, sym, ap, subst, ◌∙◌}
use Rattle.std.specs.Global.{Vec}
use Rattle.std.proofs.lemmas.List.{append_assoc, append-nil}
use Rattle.dg_fold.specs.PathIndependence.{IsWalk}
use Rattle.dg_fold.specs.Steps.{PartedStep}
use Rattle.dg_fold.specs.Trees.{Begins_at_root, IsStepOf, PathIn, Steps_on}
use Rattle.dg_fold.specs.WritingSteps.{GoesBack, By_the_edge, Stays}
use Rattle.dg_history.specs.declared.node.NodeId.{NodeId}
use Rattle.dg_history.specs.declared.node.NodeId.TheVariants.{Root}
use Rattle.dg_plan.specs.declared.edge.Edge.{Edge}
use Rattle.dg_steps.specs.TreeSteps.{GoApart}
use Rattle.dg_steps.specs.TreeStepWalks.{GoesBackOver, chosen, is_own, takes_it}

abbrev pub edges_in : List PartedStep → List Edge
edges_in all = map (λ (s : PartedStep). s.0) all

-- ---- the path to one node

-- a path goes on along steps that are all of the tree
path_on : (all own : List PartedStep) (u w : NodeId) (walk : List PartedStep) → PathIn all u walk → IsWalk u (edges_in own) w
    → ((s : PartedStep) → IsStepOf s own → IsStepOf s all) → PathIn all w (walk ++ own)
path_on all [] u w walk p on among =
    subst (PathIn all w) (sym (append-nil walk)) (subst (λ n. PathIn all n walk) on p)
path_on all (s ∷ own) u w walk p on among =
    let next = Steps_on s walk (among s (inl refl)) (subst (λ n. PathIn all n walk) (sym on.0) p) in
    subst (PathIn all w) (append_assoc walk (s ∷ []) own)
    (path_on all own s.0.to w (walk ++ s ∷ []) next on.1 (λ t h. among t (inr h)))

chosen_in : (test : List Bool → Bool) (all : List PartedStep) (takes : List (Vec Bool)) (s : PartedStep) → IsStepOf s (chosen test all takes) → IsStepOf s all
chosen_in test [] takes s h = absurd h
chosen_in test (t ∷ all) [] s h = absurd h
chosen_in test (t ∷ all) (f ∷ takes) s h = by (test f.items) (chosen_in test all takes s) h
  where
    by : (b : Bool) → (IsStepOf s (chosen test all takes) → IsStepOf s all) → IsStepOf s (cond b (t ∷ chosen test all takes) (chosen test all takes)) → IsStepOf s (t ∷ all)
    by true again (inl is) = inl is
    by true again (inr k) = inr (again k)
    by false again k = inr (again k)

-- the steps that a path takes lead to its node
walk_of : (n : ℕ) (node : NodeId) (all : List PartedStep) (takes : List (Vec Bool)) (at : NodeId) → GoesBackOver n node (edges_in all) takes at
    → IsWalk at (edges_in (chosen (takes_it n) all takes)) node
walk_of n node [] [] at h = h
walk_of n node [] (f ∷ takes) at h = absurd h
walk_of n node (s ∷ all) [] at h = absurd h
walk_of n node (s ∷ all) (f ∷ takes) at h = by (chosen (takes_it n) all takes) h.1 (walk_of n node all takes h.0 h.2)
  where
    by : (own : List PartedStep) → GoesBack s.0 h.0 at (takes_it n f.items) → IsWalk h.0 (edges_in own) node → IsWalk at (edges_in (cond (takes_it n f.items) (s ∷ own) own)) node
    by own (By_the_edge to from is) on =
        subst (λ b. IsWalk at (edges_in (cond b (s ∷ own) own)) node) (sym is) (sym from, subst (λ m. IsWalk m (edges_in own) node) to on)
    by own (Stays apart stays is) on =
        subst (λ b. IsWalk at (edges_in (cond b (s ∷ own) own)) node) (sym is) (subst (λ m. IsWalk m (edges_in own) node) (sym stays) on)

path_to : (n : ℕ) (node : NodeId) (all : List PartedStep) (takes : List (Vec Bool)) → GoesBackOver n node (edges_in all) takes Root → PathIn all node (chosen (takes_it n) all takes)
path_to n node all takes h =
    path_on all (chosen (takes_it n) all takes) Root node [] Begins_at_root (walk_of n node all takes Root h) (chosen_in (takes_it n) all takes)

-- ---- the paths to two

abbrev both : ℕ → ℕ → List Bool → Bool
both n m f = takes_it n f && takes_it m f

-- What is known of the steps behind, and whether each of the two paths takes the next one: what is known of all of them.
record Parted (a b : Bool) (s : PartedStep) (x y z p q : List PartedStep) (u v : NodeId) : Type 0 where
  first : cond a (s ∷ x) x ≡ cond (a && b) (s ∷ z) z ++ cond (a && not b) (s ∷ p) p
  other : cond b (s ∷ y) y ≡ cond (a && b) (s ∷ z) z ++ cond (b && not a) (s ∷ q) q
  apart : u ≢ v → cond (a && b) (s ∷ z) z ≡ []

none_before : (s : PartedStep) (z p : List PartedStep) → z ≡ [] → s ∷ (z ++ p) ≡ z ++ s ∷ p
none_before s z p none = subst (λ l. s ∷ (l ++ p) ≡ l ++ s ∷ p) (sym none) refl

parted : (e : Edge) (a b : Bool) (s : PartedStep) (x y z p q : List PartedStep) (u v next_u next_v : NodeId) → GoesBack e next_u u a → GoesBack e next_v v b
    → x ≡ z ++ p → y ≡ z ++ q → (next_u ≢ next_v → z ≡ []) → Parted a b s x y z p q u v
parted e a b s x y z p q u v next_u next_v (By_the_edge to from is) (By_the_edge to' from' is') first other apart =
    subst (λ c. Parted c b s x y z p q u v) (sym is)
    (subst (λ c. Parted true c s x y z p q u v) (sym is')
    (record { first = ap (λ l. s ∷ l) first; other = ap (λ l. s ∷ l) other; apart = λ ne. absurd (ne (from ∙ sym from')) }))
parted e a b s x y z p q u v next_u next_v (By_the_edge to from is) (Stays ne stays is') first other apart =
    let none = apart (λ i. ne (sym i ∙ to)) in
    subst (λ c. Parted c b s x y z p q u v) (sym is)
    (subst (λ c. Parted true c s x y z p q u v) (sym is')
    (record { first = ap (λ l. s ∷ l) first ∙ none_before s z p none; other = other; apart = λ h. none }))
parted e a b s x y z p q u v next_u next_v (Stays ne stays is) (By_the_edge to from is') first other apart =
    let none = apart (λ i. ne (i ∙ to)) in
    subst (λ c. Parted c b s x y z p q u v) (sym is)
    (subst (λ c. Parted false c s x y z p q u v) (sym is')
    (record { first = first; other = ap (λ l. s ∷ l) other ∙ none_before s z q none; apart = λ h. none }))
parted e a b s x y z p q u v next_u next_v (Stays ne stays is) (Stays ne' stays' is') first other apart =
    subst (λ c. Parted c b s x y z p q u v) (sym is)
    (subst (λ c. Parted false c s x y z p q u v) (sym is')
    (record { first = first; other = other; apart = λ h. apart (λ i. h (stays ∙ i ∙ sym stays')) }))

-- Each of the two takes the shared steps and then its own; and where they have still to reach two nodes, they share none.
record Together (n m : ℕ) (all : List PartedStep) (takes : List (Vec Bool)) (u v : NodeId) : Type 0 where
  first : chosen (takes_it n) all takes ≡ chosen (both n m) all takes ++ chosen (is_own n m) all takes
  other : chosen (takes_it m) all takes ≡ chosen (both n m) all takes ++ chosen (is_own m n) all takes
  apart : u ≢ v → chosen (both n m) all takes ≡ []

together : (n m : ℕ) (to_u to_v : NodeId) (all : List PartedStep) (takes : List (Vec Bool)) (u v : NodeId) → GoesBackOver n to_u (edges_in all) takes u → GoesBackOver m to_v (edges_in all) takes v
    → Together n m all takes u v
together n m to_u to_v [] [] u v g h = record { first = refl; other = refl; apart = λ ne. refl }
together n m to_u to_v [] (f ∷ takes) u v g h = absurd g
together n m to_u to_v (s ∷ all) [] u v g h = absurd g
together n m to_u to_v (s ∷ all) (f ∷ takes) u v g h =
    let rest = together n m to_u to_v all takes g.0 h.0 g.2 h.2 in
    let now = parted s.0 (takes_it n f.items) (takes_it m f.items) s (chosen (takes_it n) all takes) (chosen (takes_it m) all takes)
    (chosen (both n m) all takes) (chosen (is_own n m) all takes) (chosen (is_own m n) all takes) u v g.0 h.0 g.1 h.1 rest.first rest.other rest.apart in
    record { first = now.first; other = now.other; apart = now.apart }

pub go_apart : (n m : ℕ) (u v : NodeId) (all : List PartedStep) (takes : List (Vec Bool)) → GoesBackOver n u (edges_in all) takes Root → GoesBackOver m v (edges_in all) takes Root
    → GoApart all u v (chosen (is_own n m) all takes) (chosen (is_own m n) all takes)
go_apart n m u v all takes g h =
    let t = together n m u v all takes Root Root g h in
    record {
      shared = chosen (both n m) all takes;
      path_u = subst (PathIn all u) t.first (path_to n u all takes g);
      path_v = subst (PathIn all v) t.other (path_to m v all takes h);
    }
