-- Every node of the graph is reached from the root.
use Rattle.std.proofs.Common.{◌≡◌, ℕ, zero, suc, ◌+◌, ◌-◌, ◌*◌, ◌^◌, ◌≤◌, ◌<◌, Bool, true, false, cond, List as ListOf, [], ◌∷◌, ◌++◌, length, get_or, Some, refl, sym, ap, subst, ◌∙◌, arith, add-one}
use Rattle.std.specs.Prelude.{map, filter, nat_le, not, slice_get}
use Rattle.std.specs.Option.{option_map}
use Rattle.std.specs.List.{flat_map, Contains, sum_by}
use Rattle.std.proofs.lemmas.Bool.{le-leb}
use Rattle.std.proofs.lemmas.List.Elements.{Contains-append_left, Contains-append_right}
use Rattle.std.proofs.lemmas.List.Sums.{sum_by_push, sum_by-append}
use Rattle.std.proofs.Math.Nat.{pow-zero, pow-suc, one-le-pow, suc-mul, mul-one, mul_assoc, mul_right_comm, mul-le-mul_right, le-div_iff_mul-le}
use Rattle.std.proofs.lemmas.Option.{slice_get-map, slice_get-get_or}
use Rattle.dg_history.specs.declared.node.NodeId.{NodeId}
use Rattle.dg_history.specs.declared.node.NodeId.TheVariants.{Root, Leaf, List, Inner}
use Rattle.dg_history.specs.declared.node.Key.{Key}
use Rattle.dg_history.specs.declared.node.Key.TheVariants as key
use Rattle.dg_plan.specs.declared.edge.Edge.{Edge}
use Rattle.dg_plan.specs.declared.edge.Via.TheVariants as via
use Rattle.dg_plan.specs.declared.edge.Way.TheVariants.{Same, Forward, Back}
use Rattle.dg_plan.specs.Walks.{Cost, weight_of}
use Rattle.dg_plan.proofs.WalkCosts.{cost_last}
use Rattle.dg_plan.proofs.WalkLeastCosts.{walk_more}
use Rattle.dg_plan.proofs.WalkNames.{contains_renamed}
use Rattle.dg_index.specs.Hierarchy.{numbers}
use Rattle.dg_index.specs.IndexRecords.{heights}
use Rattle.dg_plan.specs.IndexGraph.{Ground, inners_at, leaf, level_node, is_root, edge, list_edges, child_edges, inner_edges, level_edges, first_edges, edges_of, arc_of, arcs_of, IsReached, lists_before}
use Rattle.dg_plan.proofs.IndexGraphNumbers.{numbers_split, numbers_more, above_exponent}

-- ---- what a list contains

contains_front : {X : Type 0} (x : X) (xs : ListOf X) → Contains (x ∷ xs) x
contains_front x xs = (0, omega arith, refl)

contains_later : {X : Type 0} (y x : X) (xs : ListOf X) → Contains xs x → Contains (y ∷ xs) x
contains_later y x xs c = (suc c.0, (let h = c.1 in omega arith), c.2)

pub contains_flat : {X A : Type 0} (f : X → ListOf A) (xs : ListOf X) (x : X) (a : A) → Contains xs x → Contains (f x) a → Contains (flat_map f xs) a
contains_flat f [] x a c d = absurd (let h = c.1 in omega arith)
contains_flat {X} {A} f (y ∷ xs) x a c d = by c.0 c.1 c.2 (λ k within is. contains_flat f xs x a (k, within, is) d)
  where
    by : (k : ℕ) → k < suc (length xs) → get_or (y ∷ xs) k x ≡ x → ((k : ℕ) → k < length xs → get_or xs k x ≡ x → Contains (flat_map f xs) a) → Contains (f y ++ flat_map f xs) a
    by zero within is rest = Contains-append_left (f y) (flat_map f xs) a (subst (λ z. Contains (f z) a) (sym is) d)
    by (suc k) within is rest = Contains-append_right (f y) (flat_map f xs) a (rest k (omega arith) is)

pub contains_filter : {X : Type 0} (test : X → Bool) (xs : ListOf X) (x : X) → Contains xs x → test x ≡ true → Contains (filter test xs) x
contains_filter test [] x c t = absurd (let h = c.1 in omega arith)
contains_filter {X} test (y ∷ xs) x c t = by c.0 c.1 c.2 (λ k within is. contains_filter test xs x (k, within, is) t)
  where
    put : (b : Bool) → Contains (filter test xs) x → Contains (cond b (y ∷ filter test xs) (filter test xs)) x
    put true c = contains_later y x (filter test xs) c
    put false c = c

    by : (k : ℕ) → k < suc (length xs) → get_or (y ∷ xs) k x ≡ x → ((k : ℕ) → k < length xs → get_or xs k x ≡ x → Contains (filter test xs) x) → Contains (cond (test y) (y ∷ filter test xs) (filter test xs)) x
    by zero within is rest = subst (λ b. Contains (cond b (y ∷ filter test xs) (filter test xs)) x) (sym (ap test is ∙ t)) (subst (λ z. Contains (z ∷ filter test xs) x) (sym is) (contains_front x (filter test xs)))
    by (suc k) within is rest = put (test y) (rest k (omega arith) is)

pub contains_mapped : {X A : Type 0} (f : X → A) (xs : ListOf X) (x : X) → Contains xs x → Contains (map f xs) (f x)
contains_mapped f xs x c = contains_renamed f xs x c

pub contains_number : (first n i : ℕ) → i < n → Contains (numbers first n) (first + i)
contains_number first zero i within = absurd (omega arith)
contains_number first (suc n) zero within = subst (Contains (numbers first (suc n))) (let h : first ≡ first + 0 = omega arith in h) (contains_front first (numbers (first + 1) n))
contains_number first (suc n) (suc i) within =
    subst (Contains (numbers first (suc n))) (let h : first + 1 + i ≡ first + suc i = omega arith in h) (contains_later first (first + 1 + i) (numbers (first + 1) n) (contains_number (first + 1) n i (omega arith)))

-- ---- walks

pub step_on : (g : Ground) (e : Edge) (most : ℕ) → Contains (edges_of g) e → IsReached g e.from most → IsReached g e.to (most + e.weight)
step_on g e most c r =
    let there : slice_get (arcs_of (edges_of g)) c.0 ≡ Some (arc_of e) = slice_get-map arc_of (edges_of g) c.0 ∙ (ap (option_map arc_of) (slice_get-get_or (edges_of g) c.0 e c.1 ∙ ap (λ z. Some z) c.2)) in
    record {
      steps = r.steps ++ c.0 ∷ [];
      walk = walk_more (arcs_of (edges_of g)) Root r.steps c.0 (arc_of e) there r.walk;
      weighs = (let h : weight_of (arcs_of (edges_of g)) (r.steps ++ c.0 ∷ []) ≡ weight_of (arcs_of (edges_of g)) r.steps + e.weight = ap (λ (x : Cost). x.0) (cost_last (arcs_of (edges_of g)) r.steps c.0 (arc_of e) there) in
          let w = r.weighs in omega arith);
    }

-- the edges of the groups
in_lists : (g : Ground) (i : ℕ) (e : Edge) → i < g.leaves → Contains (list_edges g.weight i) e → is_root e.to ≡ false → Contains (edges_of g) e
in_lists g i e within c apart =
    contains_filter (λ (e : Edge). not (is_root e.to)) _ e
    (Contains-append_right (first_edges g) _ e (Contains-append_left (flat_map (list_edges g.weight) (numbers 0 g.leaves)) _ e
    (contains_flat (list_edges g.weight) (numbers 0 g.leaves) i e (subst (Contains (numbers 0 g.leaves)) (let h : 0 + i ≡ i = omega arith in h) (contains_number 0 g.leaves i within)) c)))
    (ap not apart)

leaf_apart : (j : ℕ) → is_root (leaf (suc j)) ≡ false
leaf_apart j = refl

pub list_reached : (g : Ground) (i : ℕ) → i < g.leaves → IsReached g (leaf i) (lists_before g.weight i) → IsReached g (List i) (lists_before g.weight (i + 1))
list_reached g i within r =
    let e = edge (leaf i) (List i) (g.weight (key.List i)) (via.Paid (key.List i) Same) in
    subst (IsReached g (List i)) (sym (ap (sum_by (λ k. g.weight (key.List k))) (numbers_more 0 i ∙ ap (λ k. numbers 0 i ++ k ∷ []) (let h : 0 + i ≡ i = omega arith in h)) ∙ sum_by_push (λ k. g.weight (key.List k)) (numbers 0 i) i))
    (step_on g e (lists_before g.weight i) (in_lists g i e within (0, omega arith, refl) refl) r)

pub leaf_reached : (g : Ground) (j : ℕ) → j ≤ g.leaves → IsReached g (leaf j) (lists_before g.weight j)
leaf_reached g zero within = record { steps = []; walk = refl; weighs = omega arith }
leaf_reached g (suc j) within =
    let r = list_reached g j (omega arith) (leaf_reached g j (omega arith)) in
    let e = edge (List j) (leaf (suc j)) 0 (via.Held (key.List j) Forward) in
    subst (IsReached g (leaf (suc j))) (let h : lists_before g.weight (j + 1) + 0 ≡ lists_before g.weight (j + 1) = omega arith in h ∙ ap (lists_before g.weight) (let k : j + 1 ≡ suc j = omega arith in k))
    (step_on g e (lists_before g.weight (j + 1)) (in_lists g j e (omega arith) (3, omega arith, refl) refl) r)

-- ---- interior nodes

in_levels : (g : Ground) (h j c : ℕ) (e : Edge) → 2 ≤ g.arity → g.arity ^ (h + 1) ≤ g.leaves → 1 ≤ j → j ≤ inners_at g.leaves g.arity (h + 1) → (j - 1) * g.arity + 1 ≤ c → c < (j - 1) * g.arity + 1 + g.arity
    → Contains (child_edges g.weight h j c) e → is_root e.to ≡ false → Contains (edges_of g) e
in_levels g h j c e low high j_low j_high c_low c_high there apart =
    let height : Contains (heights g.arity g.leaves) (h + 1) =
    contains_filter (λ x. nat_le (g.arity ^ x) g.leaves) (numbers 1 g.leaves) (h + 1)
    (subst (Contains (numbers 1 g.leaves)) (let k : 1 + h ≡ h + 1 = omega arith in k) (contains_number 1 g.leaves h (let a = above_exponent g.arity (h + 1) low in omega arith))) (le-leb _ _ high) in
    let number : Contains (numbers 1 (inners_at g.leaves g.arity (h + 1))) j =
    subst (Contains (numbers 1 (inners_at g.leaves g.arity (h + 1)))) (let k : 1 + (j - 1) ≡ j = omega arith in k) (contains_number 1 (inners_at g.leaves g.arity (h + 1)) (j - 1) (omega arith)) in
    let child : Contains (numbers ((j - 1) * g.arity + 1) g.arity) c =
    subst (Contains (numbers ((j - 1) * g.arity + 1) g.arity)) (let k : (j - 1) * g.arity + 1 + (c - ((j - 1) * g.arity + 1)) ≡ c = omega arith in k)
    (contains_number ((j - 1) * g.arity + 1) g.arity (c - ((j - 1) * g.arity + 1)) (omega arith)) in
    let inner : Contains (inner_edges g.weight g.arity h j) e = contains_flat (child_edges g.weight h j) (numbers ((j - 1) * g.arity + 1) g.arity) c e child there in
    let same : inner_edges g.weight g.arity (h + 1 - 1) j ≡ inner_edges g.weight g.arity h j = ap (λ x. inner_edges g.weight g.arity x j) (omega arith) in
    let level : Contains (level_edges g.weight g.leaves g.arity (h + 1)) e =
    contains_flat (inner_edges g.weight g.arity (h + 1 - 1)) (numbers 1 (inners_at g.leaves g.arity (h + 1))) j e number (subst (λ es. Contains es e) (sym same) inner) in
    contains_filter (λ (e : Edge). not (is_root e.to)) _ e
    (Contains-append_right (first_edges g) _ e (Contains-append_right (flat_map (list_edges g.weight) (numbers 0 g.leaves)) _ e
    (Contains-append_left (flat_map (level_edges g.weight g.leaves g.arity) (heights g.arity g.leaves)) _ e
    (contains_flat (level_edges g.weight g.leaves g.arity) (heights g.arity g.leaves) (h + 1) e height level))))
    (ap not apart)

pub lighter : (g : Ground) (v : NodeId) (a b : ℕ) → a ≤ b → IsReached g v a → IsReached g v b
lighter g v a b le r = record { steps = r.steps; walk = r.walk; weighs = (let w = r.weighs in omega arith) }

pub before_all : (weight : Key → ℕ) (j m : ℕ) → j ≤ m → lists_before weight j ≤ lists_before weight m
before_all weight j m le =
    let e : numbers 0 m ≡ numbers 0 j ++ numbers (0 + j) (m - j) = ap (numbers 0) (let h : m ≡ j + (m - j) = omega arith in h) ∙ numbers_split 0 j (m - j) in
    let s : lists_before weight m ≡ lists_before weight j + sum_by (λ k. weight (key.List k)) (numbers (0 + j) (m - j)) = ap (sum_by (λ k. weight (key.List k))) e ∙ sum_by-append (λ k. weight (key.List k)) (numbers 0 j) (numbers (0 + j) (m - j)) in
    omega arith

pub last_child : (j arity : ℕ) → 1 ≤ j → 1 ≤ arity → ((j - 1) * arity + 1 ≤ j * arity) × (j * arity < (j - 1) * arity + 1 + arity)
last_child zero arity low some = absurd (omega arith)
last_child (suc j) arity low some =
    let e : suc j * arity ≡ j * arity + arity = suc-mul j arity in
    let f : (suc j - 1) * arity ≡ j * arity = ap (λ x. x * arity) (omega arith) in
    (omega arith, omega arith)

-- the node of a level is reached from a leaf below it, each level weighing at most the greatest weight
pub level_reached : (g : Ground) (bound : ℕ) → 2 ≤ g.arity → ((k : Key) → g.weight k ≤ bound) → (h j : ℕ) → 1 ≤ j → j * g.arity ^ h ≤ g.leaves
    → IsReached g (level_node h j) (lists_before g.weight g.leaves + h * bound)
level_reached g bound low light zero zero j_low within = absurd (omega arith)
level_reached g bound low light zero (suc j) j_low within =
    let p : g.arity ^ 0 ≡ 1 = pow-zero g.arity in
    let le : suc j ≤ g.leaves = (let h : suc j * g.arity ^ 0 ≡ suc j = ap (λ x. suc j * x) p ∙ mul-one (suc j) in omega arith) in
    lighter g (Leaf (suc j)) (lists_before g.weight (suc j)) _ (let b = before_all g.weight (suc j) g.leaves le in omega arith) (leaf_reached g (suc j) le)
level_reached g bound low light (suc h) j j_low within =
    let power : g.arity ^ suc h ≡ g.arity ^ h * g.arity = pow-suc g.arity h in
    let regroup : j * g.arity * g.arity ^ h ≡ j * g.arity ^ suc h = mul_right_comm j g.arity (g.arity ^ h) ∙ (mul_assoc j (g.arity ^ h) g.arity ∙ ap (λ x. j * x) (sym power)) in
    let child_low : 1 ≤ j * g.arity = (let m = mul-le-mul_right g.arity j_low in omega arith) in
    let below = level_reached g bound low light h (j * g.arity) child_low (omega arith) in
    let s : suc h ≡ h + 1 = sym (add-one h) in
    let power' : j * g.arity ^ (h + 1) ≤ g.leaves = subst (λ x. j * g.arity ^ x ≤ g.leaves) s within in
    let positive : 0 < g.arity ^ (h + 1) = one-le-pow (h + 1) g.arity (omega arith) in
    let high : g.arity ^ (h + 1) ≤ g.leaves = (let m = mul-le-mul_right (g.arity ^ (h + 1)) j_low in omega arith) in
    let j_high : j ≤ inners_at g.leaves g.arity (h + 1) = (le-div_iff_mul-le positive).1 power' in
    let ends = last_child j g.arity j_low (omega arith) in
    let e = edge (level_node h (j * g.arity)) (Inner (h + 1) j) (g.weight (key.Down (h + 1) (j * g.arity))) (via.Paid (key.Down (h + 1) (j * g.arity)) Back) in
    let there : Contains (edges_of g) e = in_levels g h j (j * g.arity) e low high j_low j_high ends.0 ends.1 (1, omega arith, refl) refl in
    let on = step_on g e (lists_before g.weight g.leaves + h * bound) there below in
    let l = light (key.Down (h + 1) (j * g.arity)) in
    subst (λ x. IsReached g (Inner x j) (lists_before g.weight g.leaves + suc h * bound)) (sym s)
    (lighter g (Inner (h + 1) j) _ _ (let m : suc h * bound ≡ h * bound + bound = suc-mul h bound in omega arith) on)
