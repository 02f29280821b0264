-- The index of a node is where it stands.
use Rattle.std.proofs.Common.{◌≡◌, ◌≢◌, get_or, ℕ, zero, suc, ◌+◌, ◌-◌, ◌^◌, ◌<◌, Bool, true, false, cond, List as ListOf, [], ◌∷◌, ◌++◌, length, map, Some, refl, sym, ap, subst, ◌∙◌, arith, add-one, length-append}
use Rattle.std.specs.Prelude.{AllPairs, slice_get, filter, nat_le}
use Rattle.std.specs.List.{flat_map, sum_by, Contains}
use Rattle.std.proofs.lemmas.List.{append-nil, length-map}
use Rattle.std.proofs.lemmas.List.Concat.{flat_map-append, length-flat_map}
use Rattle.std.proofs.lemmas.List.Elements.{filter-append}
use Rattle.std.proofs.lemmas.Option.{none-some, same_Some, slice_get-get_or}
use Rattle.dg_history.specs.declared.node.NodeId.{NodeId}
use Rattle.dg_history.specs.declared.node.NodeId.TheVariants.{Root, Now, Recent, Leaf, List, Inner}
use Rattle.dg_index.specs.Hierarchy.{numbers}
use Rattle.dg_index.specs.IndexRecords.{heights}
use Rattle.dg_plan.specs.IndexGraph.{Ground, inners_at, inner_nodes, nodes_of}
use Rattle.dg_planner.specs.Order.{count_in, inners_below, first_leaf, node_index_of}
use Rattle.dg_plan.proofs.IndexGraphNumbers.{numbers_more}

-- the elements of the list are numbered from a base on
abbrev Numbered : {X : Type 0} → (X → ℕ) → ℕ → ListOf X → Type 0
Numbered {X} f base xs = (p : ℕ) (x : X) → slice_get xs p ≡ Some x → f x ≡ base + p

none_numbered : {X : Type 0} (f : X → ℕ) (base : ℕ) → Numbered f base []
none_numbered f base p x is = absurd (none-some x is)

one_numbered : {X : Type 0} (f : X → ℕ) (base : ℕ) (y : X) (xs : ListOf X) → f y ≡ base → Numbered f (base + 1) xs → Numbered f base (y ∷ xs)
one_numbered f base y xs here rest zero x is = ap f (sym (same_Some _ _ is)) ∙ (here ∙ omega arith)
one_numbered f base y xs here rest (suc p) x is = rest p x is ∙ omega arith

both_numbered : {X : Type 0} (f : X → ℕ) (base : ℕ) (xs ys : ListOf X) → Numbered f base xs → Numbered f (base + length xs) ys → Numbered f base (xs ++ ys)
both_numbered f base [] ys a b = λ p x is. b p x is ∙ omega arith
both_numbered f base (y ∷ xs) ys a b =
    one_numbered f base y (xs ++ ys) (a 0 y refl ∙ omega arith) (both_numbered f (base + 1) xs ys (λ p x is. a (suc p) x is ∙ omega arith) (λ p x is. b p x is ∙ omega arith))

length-numbers : (first n : ℕ) → length (numbers first n) ≡ n
length-numbers first zero = refl
length-numbers first (suc n) = ap suc (length-numbers (first + 1) n)

map_numbered : {X : Type 0} (f : X → ℕ) (c : ℕ → X) (base first n : ℕ) → ((i : ℕ) → i < n → f (c (first + i)) ≡ base + i) → Numbered f base (map c (numbers first n))
map_numbered f c base first zero each = none_numbered f base
map_numbered f c base first (suc n) each =
    one_numbered f base (c first) (map c (numbers (first + 1) n)) (ap (λ k. f (c k)) (let h : first ≡ first + 0 = omega arith in h) ∙ (each 0 (omega arith) ∙ omega arith))
    (map_numbered f c (base + 1) (first + 1) n (λ i within. ap (λ k. f (c k)) (let h : first + 1 + i ≡ first + suc i = omega arith in h) ∙ (each (suc i) (omega arith) ∙ omega arith)))

module _ (g : Ground) where
  test : ℕ → Bool
  test h = nat_le (g.arity ^ h) g.leaves

  level : ℕ → ListOf NodeId
  level h = map (λ j. Inner h j) (numbers 1 (inners_at g.leaves g.arity h))

  base : ℕ
  base = first_leaf g.memory + g.leaves + g.leaves

  level_length : (h : ℕ) → length (level h) ≡ inners_at g.leaves g.arity h
  unfolding level
  level_length h = length-map (numbers 1 (inners_at g.leaves g.arity h)) (λ j. Inner h j) ∙ length-numbers 1 (inners_at g.leaves g.arity h)

  levels_length : (hs : ListOf ℕ) → length (flat_map level hs) ≡ sum_by (inners_at g.leaves g.arity) hs
  levels_length hs = length-flat_map level hs ∙ (λ i. sum_by (λ h. level_length h i) hs)

  level_numbered : (n : ℕ) → Numbered (node_index_of g) (base + length (flat_map level (filter test (numbers 1 n)))) (level (n + 1))
  unfolding base level test
  level_numbered n =
      map_numbered (node_index_of g) (λ j. Inner (n + 1) j) (base + length (flat_map level (filter test (numbers 1 n)))) 1 (inners_at g.leaves g.arity (n + 1)) (λ i within.
      let len : length (flat_map level (filter test (numbers 1 n))) ≡ sum_by (inners_at g.leaves g.arity) (filter test (numbers 1 n)) = levels_length (filter test (numbers 1 n)) in
      let same : inners_below g.leaves g.arity (n + 1) ≡ sum_by (inners_at g.leaves g.arity) (filter test (numbers 1 n)) = ap (λ k. sum_by (inners_at g.leaves g.arity) (filter test (numbers 1 k))) (let h : n + 1 - 1 ≡ n = omega arith in h) in
      omega arith)

  levels_numbered : (n : ℕ) → Numbered (node_index_of g) base (flat_map level (filter test (numbers 1 n)))
  levels_numbered zero = none_numbered (node_index_of g) base
  levels_numbered (suc n) =
      let split : filter test (numbers 1 (suc n)) ≡ filter test (numbers 1 n) ++ cond (test (n + 1)) ((n + 1) ∷ []) [] =
      ap (filter test) (ap (numbers 1) (sym (add-one n)) ∙ (numbers_more 1 n ∙ ap (λ k. numbers 1 n ++ k ∷ []) (let h : 1 + n ≡ n + 1 = omega arith in h))) ∙ filter-append test (numbers 1 n) ((n + 1) ∷ []) in
      subst (λ hs. Numbered (node_index_of g) base (flat_map level hs)) (sym split) (by (levels_numbered n) (test (n + 1)))
    where
      by : Numbered (node_index_of g) base (flat_map level (filter test (numbers 1 n))) → (b : Bool) → Numbered (node_index_of g) base (flat_map level (filter test (numbers 1 n) ++ cond b ((n + 1) ∷ []) []))
      by had true = subst (Numbered (node_index_of g) base) (sym (flat_map-append level (filter test (numbers 1 n)) ((n + 1) ∷ [])))
          (both_numbered (node_index_of g) base (flat_map level (filter test (numbers 1 n))) (level (n + 1) ++ []) had (subst (Numbered (node_index_of g) (base + length (flat_map level (filter test (numbers 1 n))))) (sym (append-nil (level (n + 1)))) (level_numbered n)))
      by had false = subst (λ hs. Numbered (node_index_of g) base (flat_map level hs)) (sym (append-nil (filter test (numbers 1 n)))) had

  -- a node stands at its index
  pub stands : Numbered (node_index_of g) 0 (nodes_of g)
  unfolding base level test
  stands =
      one_numbered (node_index_of g) 0 Root _ refl
      (subst (λ b. Numbered (node_index_of g) b (cond g.memory (Now ∷ Recent ∷ []) [] ++ rest)) (let h : 1 ≡ 0 + 1 = omega arith in h)
      (both_numbered (node_index_of g) 1 (cond g.memory (Now ∷ Recent ∷ []) []) rest (by_memory g.memory) (subst (λ b. Numbered (node_index_of g) b rest) (long g.memory) rest_numbered)))
    where
      lists : ListOf NodeId
      lists = map (λ i. List i) (numbers 0 g.leaves)

      rest : ListOf NodeId
      rest = map (λ j. Leaf j) (numbers 1 g.leaves) ++ (map (λ i. List i) (numbers 0 g.leaves) ++ inner_nodes g)

      by_memory : (m : Bool) → Numbered (node_index_of g) 1 (cond m (Now ∷ Recent ∷ []) [])
      by_memory true = one_numbered (node_index_of g) 1 Now (Recent ∷ []) refl (one_numbered (node_index_of g) (1 + 1) Recent [] refl (none_numbered (node_index_of g) (1 + 1 + 1)))
      by_memory false = none_numbered (node_index_of g) 1

      long : (m : Bool) → cond m 3 1 ≡ 1 + length (cond m (Now ∷ Recent ∷ []) [])
      long true = refl
      long false = refl

      rest_numbered : Numbered (node_index_of g) (first_leaf g.memory) rest
      rest_numbered =
          let m : length (map (λ j. Leaf j) (numbers 1 g.leaves)) ≡ g.leaves = length-map (numbers 1 g.leaves) (λ j. Leaf j) ∙ length-numbers 1 g.leaves in
          let n : length (map (λ i. List i) (numbers 0 g.leaves)) ≡ g.leaves = length-map (numbers 0 g.leaves) (λ i. List i) ∙ length-numbers 0 g.leaves in
          both_numbered (node_index_of g) (first_leaf g.memory) (map (λ j. Leaf j) (numbers 1 g.leaves)) (map (λ i. List i) (numbers 0 g.leaves) ++ inner_nodes g)
          (map_numbered (node_index_of g) (λ j. Leaf j) (first_leaf g.memory) 1 g.leaves (λ i within. omega arith))
          (both_numbered (node_index_of g) (first_leaf g.memory + length (map (λ j. Leaf j) (numbers 1 g.leaves))) (map (λ i. List i) (numbers 0 g.leaves)) (inner_nodes g)
          (map_numbered (node_index_of g) (λ i. List i) (first_leaf g.memory + length (map (λ j. Leaf j) (numbers 1 g.leaves))) 0 g.leaves (λ i within. omega arith))
          (subst (λ b. Numbered (node_index_of g) b (inner_nodes g)) (let h : first_leaf g.memory + g.leaves + g.leaves ≡ first_leaf g.memory + length (map (λ j. Leaf j) (numbers 1 g.leaves)) + length (map (λ i. List i) (numbers 0 g.leaves)) = omega arith in h)
          (levels_numbered g.leaves)))

  -- so no two nodes have one index
  pub apart_indices : (x y : NodeId) → Contains (nodes_of g) x → Contains (nodes_of g) y → node_index_of g x ≡ node_index_of g y → x ≡ y
  apart_indices x y a b same =
      let p : slice_get (nodes_of g) a.0 ≡ Some x = slice_get-get_or (nodes_of g) a.0 x a.1 ∙ ap (λ z. Some z) a.2 in
      let q : slice_get (nodes_of g) b.0 ≡ Some y = slice_get-get_or (nodes_of g) b.0 y b.1 ∙ ap (λ z. Some z) b.2 in
      let e : a.0 ≡ b.0 = (let h = stands a.0 x p in let k = stands b.0 y q in omega arith) in
      same_Some x y (sym p ∙ (ap (slice_get (nodes_of g)) e ∙ q))

  -- nor do two places have one node
  pub nodes_apart : AllPairs (λ a b. a ≢ b) (nodes_of g)
  nodes_apart i j d below within same =
      let p = stands i (get_or (nodes_of g) i d) (slice_get-get_or (nodes_of g) i d (omega arith)) in
      let q = stands j (get_or (nodes_of g) j d) (slice_get-get_or (nodes_of g) j d within) in
      let e = ap (node_index_of g) same in
      omega arith

  -- the number of nodes
  pub counted : length (nodes_of g) ≡ count_in g.leaves g.arity g.memory
  unfolding base level test
  counted =
      let m : length (map (λ j. Leaf j) (numbers 1 g.leaves)) ≡ g.leaves = length-map (numbers 1 g.leaves) (λ j. Leaf j) ∙ length-numbers 1 g.leaves in
      let n : length (map (λ i. List i) (numbers 0 g.leaves)) ≡ g.leaves = length-map (numbers 0 g.leaves) (λ i. List i) ∙ length-numbers 0 g.leaves in
      let k : length (inner_nodes g) ≡ sum_by (inners_at g.leaves g.arity) (heights g.arity g.leaves) = levels_length (heights g.arity g.leaves) in
      let f : suc (length (cond g.memory (Now ∷ Recent ∷ []) [])) ≡ first_leaf g.memory = by g.memory in
      let a = length-append (cond g.memory (Now ∷ Recent ∷ []) []) (map (λ j. Leaf j) (numbers 1 g.leaves) ++ (map (λ i. List i) (numbers 0 g.leaves) ++ inner_nodes g)) in
      let b = length-append (map (λ j. Leaf j) (numbers 1 g.leaves)) (map (λ i. List i) (numbers 0 g.leaves) ++ inner_nodes g) in
      let c = length-append (map (λ i. List i) (numbers 0 g.leaves)) (inner_nodes g) in
      omega arith
    where
      by : (x : Bool) → suc (length (cond x (Now ∷ Recent ∷ []) [])) ≡ first_leaf x
      by true = refl
      by false = refl
