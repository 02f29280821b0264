-- A tree enters each record once.
use Rattle.std.proofs.Common.{◌≡◌, ℕ, zero, suc, ◌+◌, ◌-◌, ◌*◌, ◌/◌, ◌≤◌, ◌<◌, List as ListOf, [], ◌∷◌, ◌++◌, length, get_or, map, Some, refl, sym, ap, subst, ◌∙◌, arith, inl, inr, ⊎_elim, cond, true, false, Bool}
use Rattle.std.specs.Prelude.{slice_get, slice_index, ◌⊎◌, not}
use Rattle.std.specs.Option.{option_map}
use Rattle.std.specs.List.{flat_map, Contains, All}
use Rattle.std.proofs.lemmas.List.Elements.{All-append, All-filter, All-map, All-nil, All-from_recursion, Contains-append_left, Contains-push}
use Rattle.std.proofs.lemmas.Option.{same_Some, slice_get-map, slice_get_within, get_or_from_slice_get}
use Rattle.std.proofs.Math.Nat.{add-mul-div_right, div-eq_of_lt}
use Rattle.dg_history.specs.declared.node.NodeId.{NodeId}
use Rattle.dg_history.specs.declared.node.NodeId.TheVariants as node
use Rattle.dg_history.specs.declared.node.Key.{Key}
use Rattle.dg_history.specs.declared.node.Key.TheVariants.{List, Piece, Top, Down}
use Rattle.dg_plan.specs.declared.edge.Edge.{Edge}
use Rattle.dg_plan.specs.declared.edge.Via.TheVariants as via
use Rattle.dg_plan.specs.Walks.{Arc, Grows}
use Rattle.dg_index.specs.Hierarchy.{numbers}
use Rattle.dg_index.specs.IndexRecords.{heights}
use Rattle.dg_plan.specs.IndexGraph.{edge, Ground, inners_at, level_node, is_root, base_edge, top_edge, list_edges, child_edges, inner_edges, level_edges, first_edges, recent_edges, edges_of, arc_of, arcs_of}
use Rattle.dg_plan.specs.EnteredRecords.{Joins, JoinsAs, Enters, EntersOnce}

-- ---- the edges of the index graph join the nodes of their records

abbrev Fits : ℕ → Edge → Type 0
Fits arity e = JoinsAs arity e e.via

pub all_flat : {X A : Type 0} (P : A → Type 0) (f : X → ListOf A) (xs : ListOf X) → ((x : X) → Contains xs x → All P (f x)) → All P (flat_map f xs)
all_flat P f [] each = All-nil P
all_flat P f (x ∷ xs) each = All-append P (f x) (flat_map f xs) (each x (0, omega arith, refl)) (all_flat P f xs (λ y c. each y (suc c.0, (let h = c.1 in omega arith), c.2)))

pub number_of : (first n x : ℕ) → Contains (numbers first n) x → (i : ℕ) × (i < n) × (x ≡ first + i)
number_of first zero x c = absurd (let h = c.1 in omega arith)
number_of first (suc n) x c = by c.0 c.1 c.2 (λ k within is. number_of (first + 1) n x (k, within, is))
  where
    by : (k : ℕ) → k < suc (length (numbers (first + 1) n)) → get_or (first ∷ numbers (first + 1) n) k x ≡ x → ((k : ℕ) → k < length (numbers (first + 1) n) → get_or (numbers (first + 1) n) k x ≡ x → (i : ℕ) × (i < n) × (x ≡ first + 1 + i))
        → (i : ℕ) × (i < suc n) × (x ≡ first + i)
    by zero within is rest = (0, omega arith, sym is ∙ omega arith)
    by (suc k) within is rest = let r = rest k (omega arith) is in (suc r.0, (let h = r.1 in omega arith), r.2 ∙ omega arith)

-- the parent of a child
parent_is : (arity j c : ℕ) → 1 ≤ j → Contains (numbers ((j - 1) * arity + 1) arity) c → j ≡ (c - 1) / arity + 1
parent_is arity j c low there =
    let n = number_of ((j - 1) * arity + 1) arity c there in
    let small = n.1 in
    let e : c - 1 ≡ n.0 + (j - 1) * arity = (let h = n.2 in omega arith) in
    let q : (c - 1) / arity ≡ n.0 / arity + (j - 1) = ap (λ x. x / arity) e ∙ add-mul-div_right n.0 (j - 1) (omega arith) in
    let z : n.0 / arity ≡ 0 = div-eq_of_lt small in
    omega arith

child_fits : (g : Ground) (h j c : ℕ) → 1 ≤ j → Contains (numbers ((j - 1) * g.arity + 1) g.arity) c → All (Fits g.arity) (child_edges g.weight h j c)
child_fits g h j c low there =
    let parent : node.Inner (h + 1) j ≡ node.Inner (h + 1) ((c - 1) / g.arity + 1) = ap (node.Inner (h + 1)) (parent_is g.arity j c low there) in
    let child : level_node h c ≡ level_node (h + 1 - 1) c = ap (λ x. level_node x c) (omega arith) in
    All-from_recursion (Fits g.arity) (child_edges g.weight h j c) (inl (parent, child), (inr (child, parent), tt))

level_fits : (g : Ground) (h : ℕ) → All (Fits g.arity) (level_edges g.weight g.leaves g.arity h)
level_fits g h =
    all_flat (Fits g.arity) (inner_edges g.weight g.arity (h - 1)) (numbers 1 (inners_at g.leaves g.arity h)) (λ j there.
    all_flat (Fits g.arity) (child_edges g.weight (h - 1) j) (numbers ((j - 1) * g.arity + 1) g.arity) (λ c in'.
    child_fits g (h - 1) j c (let n = number_of 1 (inners_at g.leaves g.arity h) j there in let e = n.2 in omega arith) in'))

now_fits : (arity : ℕ) (m : Bool) → All (Fits arity) (cond m (edge node.Root node.Now 0 via.Now ∷ []) [])
now_fits arity true = All-from_recursion (Fits arity) (edge node.Root node.Now 0 via.Now ∷ []) (tt, tt)
now_fits arity false = All-nil (Fits arity)

recent_fits : (arity leaves : ℕ) (m : Bool) → All (Fits arity) (cond m (recent_edges leaves) [])
recent_fits arity leaves true = All-from_recursion (Fits arity) (recent_edges leaves) (tt, (tt, (tt, (tt, tt))))
recent_fits arity leaves false = All-nil (Fits arity)

pub all_fit : (g : Ground) → All (Fits g.arity) (edges_of g)
all_fit g =
    All-filter (λ (e : Edge). not (is_root e.to)) (Fits g.arity) _
    (All-append (Fits g.arity) (first_edges g) _
    (All-append (Fits g.arity) (cond g.memory (edge node.Root node.Now 0 via.Now ∷ []) []) _ (now_fits g.arity g.memory)
    (All-append (Fits g.arity) (map base_edge g.bases) _ (All-map (Fits g.arity) base_edge g.bases (λ k d within. tt)) (All-map (Fits g.arity) (top_edge g.weight) (heights g.arity g.leaves) (λ k d within. refl))))
    (All-append (Fits g.arity) (flat_map (list_edges g.weight) (numbers 0 g.leaves)) _
    (all_flat (Fits g.arity) (list_edges g.weight) (numbers 0 g.leaves) (λ i c. All-from_recursion (Fits g.arity) (list_edges g.weight i) (refl, (refl, (tt, (tt, tt))))))
    (All-append (Fits g.arity) (flat_map (level_edges g.weight g.leaves g.arity) (heights g.arity g.leaves)) _
    (all_flat (Fits g.arity) (level_edges g.weight g.leaves g.arity) (heights g.arity g.leaves) (λ h c. level_fits g h)) (recent_fits g.arity g.leaves g.memory))))

-- ---- once

-- of two edges that enter one record, the head of the second is an end of the first
meet : (arity : ℕ) (k : Key) (a b x y : NodeId) → Joins arity k a b → Joins arity k x y → (y ≡ a) ⊎ (y ≡ b)
meet arity (List i) a b x y p q = inr (q ∙ sym p)
meet arity (Piece s) a b x y p q = absurd p
meet arity (Top h) a b x y p q = inr (q ∙ sym p)
meet arity (Down h c) a b x y (inl p) (inl q) = inr (q.1 ∙ sym p.1)
meet arity (Down h c) a b x y (inl p) (inr q) = inl (q.1 ∙ sym p.0)
meet arity (Down h c) a b x y (inr p) (inl q) = inl (q.1 ∙ sym p.0)
meet arity (Down h c) a b x y (inr p) (inr q) = inr (q.1 ∙ sym p.1)

-- a later step of a tree enters neither end of an earlier one
later : (g : ListOf (Arc NodeId)) (tree : ListOf NodeId) (steps : ListOf ℕ) (n : NodeId) → Contains tree n → Grows g tree steps → (j : ℕ) (b : Arc NodeId) → j < length steps → slice_get g (slice_index steps j) ≡ Some b → b.to ≡ n → ⊥
later g tree [] n in' grows j b within there is = absurd (omega arith)
later g tree (s ∷ steps) n in' grows zero b within there is =
    let same : grows.0 ≡ b = same_Some _ _ (sym grows.1 ∙ there) in
    grows.3 (subst (Contains tree) (sym (ap (λ (x : Arc NodeId). x.to) same ∙ is)) in')
later g tree (s ∷ steps) n in' grows (suc j) b within there is =
    later g (tree ++ grows.0.to ∷ []) steps n (Contains-append_left tree (grows.0.to ∷ []) n in') grows.4 j b (omega arith) there is

pub apart : (g : ListOf (Arc NodeId)) (tree : ListOf NodeId) (steps : ListOf ℕ) → Grows g tree steps → (i j : ℕ) (a b : Arc NodeId) → i < j → j < length steps
    → slice_get g (slice_index steps i) ≡ Some a → slice_get g (slice_index steps j) ≡ Some b → ((b.to ≡ a.from) ⊎ (b.to ≡ a.to)) → ⊥
apart g tree [] grows i j a b lt within ta tb is = absurd (omega arith)
apart g tree (s ∷ steps) grows zero zero a b lt within ta tb is = absurd (omega arith)
apart g tree (s ∷ steps) grows zero (suc j) a b lt within ta tb is =
    let same : grows.0 ≡ a = same_Some _ _ (sym grows.1 ∙ ta) in
    ⊎_elim
    (λ (h : b.to ≡ a.from). later g (tree ++ grows.0.to ∷ []) steps a.from (subst (λ (x : Arc NodeId). Contains (tree ++ grows.0.to ∷ []) x.from) same (Contains-append_left tree (grows.0.to ∷ []) grows.0.from grows.2)) grows.4 j b (omega arith) tb h)
    (λ (h : b.to ≡ a.to). later g (tree ++ grows.0.to ∷ []) steps a.to (subst (λ (x : Arc NodeId). Contains (tree ++ grows.0.to ∷ []) x.to) same (Contains-push tree grows.0.to)) grows.4 j b (omega arith) tb h)
    is
apart g tree (s ∷ steps) grows (suc i) zero a b lt within ta tb is = absurd (omega arith)
apart g tree (s ∷ steps) grows (suc i) (suc j) a b lt within ta tb is = apart g (tree ++ grows.0.to ∷ []) steps grows.4 i j a b (omega arith) (omega arith) ta tb is

fit_at : (g : Ground) (i : ℕ) (e : Edge) (k : Key) → slice_get (edges_of g) i ≡ Some e → Enters e k → Joins g.arity k e.from e.to
fit_at g i e k there enters =
    let fit : Fits g.arity e = subst (Fits g.arity) (get_or_from_slice_get (edges_of g) i e e there) (all_fit g i e (slice_get_within (edges_of g) i e there)) in
    subst (λ v. JoinsAs g.arity e v) enters.1 fit

-- a tree of the index graph enters each record at most once
pub enters_once : (g : Ground) (tree : ListOf NodeId) (steps : ListOf ℕ) → Grows (arcs_of (edges_of g)) tree steps → EntersOnce (edges_of g) steps
enters_once g tree steps grows i j a b k lt within ta tb ea eb =
    apart (arcs_of (edges_of g)) tree steps grows i j (arc_of a) (arc_of b) lt within
    (slice_get-map arc_of (edges_of g) (slice_index steps i) ∙ ap (option_map arc_of) ta) (slice_get-map arc_of (edges_of g) (slice_index steps j) ∙ ap (option_map arc_of) tb)
    (meet g.arity k a.from a.to b.from b.to (fit_at g (slice_index steps i) a k ta ea) (fit_at g (slice_index steps j) b k tb eb))
