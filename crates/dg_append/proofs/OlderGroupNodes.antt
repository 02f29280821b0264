-- The older children of the nodes that a batch completes are nodes of the index.
use Rattle.std.proofs.Common.{◌≡◌, ℕ, zero, suc, ◌+◌, ◌-◌, ◌*◌, ◌/◌, ◌^◌, ◌≤◌, ◌<◌, ◌++◌, map, min, sym, ap, subst, ◌∙◌, arith, div-mul-le_self, le-div_iff_mul-le}
use Rattle.std.specs.Prelude.{nat_le}
use Rattle.std.specs.List.{All, Contains}
use Rattle.std.proofs.lemmas.Bool.{le-leb}
use Rattle.std.proofs.lemmas.List.Elements.{All-cons, All-map, All-nil, Contains-append_left, Contains-append_right}
use Rattle.std.proofs.Math.Nat.{mul-le-mul_right, one-le-pow, one-mul, pow-zero}
use Rattle.dg_append.specs.OlderGroups.{leaves_before}
use Rattle.dg_history.specs.declared.node.NodeId.{NodeId}
use Rattle.dg_history.specs.declared.node.NodeId.TheVariants.{Leaf, List, Inner}
use Rattle.dg_index.specs.Hierarchy.{numbers}
use Rattle.dg_index.specs.IndexRecords.{heights}
use Rattle.dg_index.specs.OlderNodes.{node_at, older, older_at}
use Rattle.dg_index.specs.OpenedIndex.{Opening}
use Rattle.dg_index.proofs.HierarchyCounts.{higher}
use Rattle.dg_plan.specs.IndexGraph.{inner_nodes, inners_at}
use Rattle.dg_plan.proofs.EnteredRecordTrees.{all_flat}
use Rattle.dg_plan.proofs.IndexGraphNumbers.{above_exponent}
use Rattle.dg_plan.proofs.IndexGraphReachability.{contains_filter, contains_flat, contains_mapped, contains_number}
use Rattle.dg_retrieval.specs.KeptGraph.{record_ground, record_nodes}
use Rattle.dg_retrieval.specs.NodeSets.{HasNoEvents}

contains_one : (n j : ℕ) → 1 ≤ j → j ≤ n → Contains (numbers 1 n) j
contains_one n j low high = subst (Contains (numbers 1 n)) (let h : 1 + (j - 1) ≡ j = omega arith in h) (contains_number 1 n (j - 1) (omega arith))

all_numbers : (P : ℕ → Type 0) (first n : ℕ) → ((j : ℕ) → first ≤ j → j < first + n → P j) → All P (numbers first n)
all_numbers P first zero each = All-nil P
all_numbers P first (suc n) each =
    All-cons P first (numbers (first + 1) n) (each first (omega arith) (omega arith)) (all_numbers P (first + 1) n (λ j low high. each j (omega (arith, low)) (omega (arith, high))))

-- what holds of each node that there may be holds of the older children
all_older : (P : NodeId → Type 0) (k m after : ℕ) → 1 ≤ k → ((h j : ℕ) → 1 ≤ j → j ≤ m / k ^ h → P (node_at h j)) → All P (older k m after)
all_older P k m after some each = all_flat P (older_at k m after) (numbers 1 after) (λ h there. at h)
  where
    fewer : (x y : ℕ) → min x 1 * y ≤ y
    fewer zero y = omega arith
    fewer (suc x) y = let e : min (suc x) 1 * y ≡ 1 * y = ap (λ n. n * y) (let z : min (suc x) 1 ≡ 1 = omega arith in z) in omega (arith, e)

    done : (h : ℕ) → m / k ^ suc h * k ≤ m / k ^ h
    done h = subst (λ n. n * k ≤ m / k ^ h) (sym (higher m k h)) (div-mul-le_self (m / k ^ h) k)

    at : (h : ℕ) → All P (older_at k m after h)
    at zero = All-nil P
    at (suc h) =
        All-map P (node_at h) (numbers (m / k ^ suc h * k + 1) (min (after / k ^ suc h - m / k ^ suc h) 1 * (m / k ^ h - m / k ^ suc h * k)))
        (all_numbers (λ j. P (node_at h j)) (m / k ^ suc h * k + 1) (min (after / k ^ suc h - m / k ^ suc h) 1 * (m / k ^ h - m / k ^ suc h * k)) (λ j low high.
        each h j (omega (arith, low)) (omega (arith, high, done h, fewer (after / k ^ suc h - m / k ^ suc h) (m / k ^ h - m / k ^ suc h * k)))))

module _ (o : Opening) (wide : 2 ≤ o.params.k) where
  leaf_there : (j : ℕ) → 1 ≤ j → j ≤ leaves_before o → Contains (record_nodes o) (Leaf j)
  leaf_there j low high =
      let c = Contains-append_left (map (λ j. Leaf j) (numbers 1 (leaves_before o))) (map (λ i. List i) (numbers 0 (leaves_before o)) ++ inner_nodes (record_ground o)) (Leaf j)
      (contains_mapped (λ j. Leaf j) (numbers 1 (leaves_before o)) j (contains_one (leaves_before o) j low high)) in
      (suc c.0, (let h = c.1 in omega arith), c.2)

  inner_there : (h j : ℕ) → 1 ≤ h → 1 ≤ j → j ≤ leaves_before o / o.params.k ^ h → Contains (record_nodes o) (Inner h j)
  inner_there h j high low count =
      let positive : 0 < o.params.k ^ h = one-le-pow h o.params.k (omega (arith, wide)) in
      let within : j * o.params.k ^ h ≤ leaves_before o = (le-div_iff_mul-le positive).0 count in
      let power : o.params.k ^ h ≤ leaves_before o = (let m : 1 * o.params.k ^ h ≤ j * o.params.k ^ h = mul-le-mul_right (o.params.k ^ h) low in let one : 1 * o.params.k ^ h ≡ o.params.k ^ h = one-mul (o.params.k ^ h) in omega (arith, m, one, within)) in
      let height : Contains (heights o.params.k (leaves_before o)) h =
      contains_filter (λ x. nat_le (o.params.k ^ x) (leaves_before o)) (numbers 1 (leaves_before o)) h
      (contains_one (leaves_before o) h high (let a = above_exponent o.params.k h wide in omega (arith, a, power))) (le-leb _ _ power) in
      let c = Contains-append_right (map (λ j. Leaf j) (numbers 1 (leaves_before o))) _ (Inner h j) (Contains-append_right (map (λ i. List i) (numbers 0 (leaves_before o))) (inner_nodes (record_ground o)) (Inner h j)
      (contains_flat (λ h. map (λ j. Inner h j) (numbers 1 (inners_at (leaves_before o) o.params.k h))) (heights o.params.k (leaves_before o)) h (Inner h j) height
      (contains_mapped (λ j. Inner h j) (numbers 1 (inners_at (leaves_before o) o.params.k h)) j (contains_one (inners_at (leaves_before o) o.params.k h) j low count)))) in
      (suc c.0, (let h = c.1 in omega arith), c.2)

  node_there : (h j : ℕ) → 1 ≤ j → j ≤ leaves_before o / o.params.k ^ h → Contains (record_nodes o) (node_at h j)
  node_there zero j low high = leaf_there j low (let one : 0 < o.params.k ^ 0 = one-le-pow 0 o.params.k (omega (arith, wide)) in
      let m : j * o.params.k ^ 0 ≤ leaves_before o = (le-div_iff_mul-le one).0 high in let p : o.params.k ^ 0 ≡ 1 = pow-zero o.params.k in let q : j * o.params.k ^ 0 ≡ j = ap (λ x. j * x) p ∙ omega arith in omega (arith, m, q))
  node_there (suc h) j low high = inner_there (suc h) j (omega arith) low high

  pub older_there : (after : ℕ) → All (Contains (record_nodes o)) (older o.params.k (leaves_before o) after)
  older_there after = all_older (Contains (record_nodes o)) o.params.k (leaves_before o) after (omega (arith, wide)) node_there

  pub older_bare : (after : ℕ) → All HasNoEvents (older o.params.k (leaves_before o) after)
  older_bare after = all_older HasNoEvents o.params.k (leaves_before o) after (omega (arith, wide)) bare
    where
      bare : (h j : ℕ) → 1 ≤ j → j ≤ leaves_before o / o.params.k ^ h → HasNoEvents (node_at h j)
      bare zero j low high = tt
      bare (suc h) j low high = tt
