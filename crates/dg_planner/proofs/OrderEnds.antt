-- Both ends of each edge are nodes of the graph.
use Rattle.std.proofs.Common.{◌≡◌, ℕ, zero, suc, ◌+◌, ◌-◌, ◌*◌, ◌^◌, ◌≤◌, ◌<◌, Bool, true, false, cond, leb, List as ListOf, [], ◌∷◌, ◌++◌, length, map, Some, refl, sym, ap, subst, ◌∙◌, arith, add-one, inl, inr}
use Rattle.std.specs.Prelude.{◌⊎◌, slice_get, nat_le, not}
use Rattle.std.specs.List.{flat_map, Contains, All}
use Rattle.std.proofs.lemmas.Bool.{leb-true, cases_lt}
use Rattle.dg_history.specs.declared.node.Key.{Key}
use Rattle.dg_plan.specs.declared.edge.Way.TheVariants.{Back}
use Rattle.std.proofs.lemmas.List.Elements.{All-append, All-filter, All-map, All-contains, All-nil, All-cons, All-from_recursion, All-contains_itself, All-weaker, filter_passes, Contains-append_left, Contains-append_right}
use Rattle.std.proofs.Math.Pow.{pow_mono}
use Rattle.std.proofs.Math.Nat.{div-le_self, suc-mul, pow-zero, pow-suc, one-le-pow, one-mul, mul_assoc, mul_comm, mul-le-mul_right, le-div_iff_mul-le, pow-le-pow_left}
use Rattle.dg_history.specs.declared.node.NodeId.{NodeId}
use Rattle.dg_history.specs.declared.node.NodeId.TheVariants.{Root, Now, Recent, Leaf, List, Inner}
use Rattle.dg_plan.specs.declared.edge.Edge.{Edge}
use Rattle.dg_plan.specs.declared.edge.Via.TheVariants as via
use Rattle.dg_index.specs.Hierarchy.{numbers}
use Rattle.dg_index.specs.IndexRecords.{heights}
use Rattle.dg_plan.specs.IndexGraph.{edge, Ground, inners_at, leaf, level_node, is_root, base_edge, top_edge, list_edges, child_edges, inner_edges, level_edges, first_edges, recent_edges, edges_of, inner_nodes, nodes_of, IsReached, lists_before}
use Rattle.dg_planner.specs.Order.{IsGraphNode, HasEnds, node_index_of}
use Rattle.dg_planner.specs.Links.{link_in}
use Rattle.dg_path.specs.Search.{IsLink, AreLinks}
use Rattle.dg_planner.proofs.OrderPlaces.{stands}
use Rattle.std.proofs.lemmas.Option.{slice_get-get_or}
use Rattle.dg_plan.proofs.IndexGraphNumbers.{above_exponent}
use Rattle.dg_plan.proofs.IndexGraphReachability.{step_on, lighter, before_all, leaf_reached, list_reached, level_reached, contains_flat, contains_filter, contains_number, contains_mapped}
use Rattle.dg_plan.proofs.EnteredRecordTrees.{all_flat, number_of}
use Rattle.std.proofs.lemmas.Bool.{le-leb}

child_sum : (j arity : ℕ) → 1 ≤ j → (j - 1) * arity + arity ≡ j * arity
child_sum zero arity low = absurd (omega arith)
child_sum (suc j) arity low = ap (λ x. x * arity + arity) (let h : suc j - 1 ≡ j = omega arith in h) ∙ sym (suc-mul j arity)

module _ (g : Ground) (low : 2 ≤ g.arity) (bases_in : All (λ (b : ℕ × NodeId). Contains (nodes_of g) b.1) g.bases) where
  abbrev pub Ends : Edge → Type 0
  Ends e = Contains (nodes_of g) e.from × Contains (nodes_of g) e.to

  memory_nodes : ListOf NodeId
  memory_nodes = cond g.memory (Now ∷ Recent ∷ []) []

  in_root : Contains (nodes_of g) Root
  in_root = (0, omega arith, refl)

  later : (x : NodeId) → Contains (map (λ j. Leaf j) (numbers 1 g.leaves) ++ (map (λ i. List i) (numbers 0 g.leaves) ++ inner_nodes g)) x → Contains (nodes_of g) x
  later x c = let d = Contains-append_right (cond g.memory (Now ∷ Recent ∷ []) []) _ x c in (suc d.0, (let h = d.1 in omega arith), d.2)

  in_memory : (x : NodeId) → Contains (cond g.memory (Now ∷ Recent ∷ []) []) x → Contains (nodes_of g) x
  in_memory x c = let d = Contains-append_left (cond g.memory (Now ∷ Recent ∷ []) []) (map (λ j. Leaf j) (numbers 1 g.leaves) ++ (map (λ i. List i) (numbers 0 g.leaves) ++ inner_nodes g)) x c in (suc d.0, (let h = d.1 in omega arith), d.2)

  pub in_Leaf : (j : ℕ) → 1 ≤ j → j ≤ g.leaves → Contains (nodes_of g) (Leaf j)
  in_Leaf j one within = later (Leaf j) (Contains-append_left (map (λ j. Leaf j) (numbers 1 g.leaves)) _ (Leaf j)
      (contains_mapped (λ j. Leaf j) (numbers 1 g.leaves) j (subst (Contains (numbers 1 g.leaves)) (let h : 1 + (j - 1) ≡ j = omega arith in h) (contains_number 1 g.leaves (j - 1) (omega arith)))))

  in_leaf : (j : ℕ) → j ≤ g.leaves → Contains (nodes_of g) (leaf j)
  in_leaf zero within = in_root
  in_leaf (suc j) within = in_Leaf (suc j) (omega arith) within

  in_List : (i : ℕ) → i < g.leaves → Contains (nodes_of g) (List i)
  in_List i within = later (List i) (Contains-append_right (map (λ j. Leaf j) (numbers 1 g.leaves)) _ (List i) (Contains-append_left (map (λ i. List i) (numbers 0 g.leaves)) (inner_nodes g) (List i)
      (contains_mapped (λ i. List i) (numbers 0 g.leaves) i (subst (Contains (numbers 0 g.leaves)) (let h : 0 + i ≡ i = omega arith in h) (contains_number 0 g.leaves i within)))))

  pub in_Inner : (h j : ℕ) → 1 ≤ h → 1 ≤ j → j * g.arity ^ h ≤ g.leaves → Contains (nodes_of g) (Inner h j)
  in_Inner h j h_low j_low within =
      let positive : 0 < g.arity ^ h = one-le-pow h g.arity (omega arith) in
      let power : g.arity ^ h ≤ g.leaves = (let m : 1 * g.arity ^ h ≤ j * g.arity ^ h = mul-le-mul_right (g.arity ^ h) j_low in let o : 1 * g.arity ^ h ≡ g.arity ^ h = one-mul (g.arity ^ h) in omega arith) in
      let count : j ≤ inners_at g.leaves g.arity h = (le-div_iff_mul-le positive).1 within in
      let height : Contains (heights g.arity g.leaves) h =
      contains_filter (λ x. nat_le (g.arity ^ x) g.leaves) (numbers 1 g.leaves) h
      (subst (Contains (numbers 1 g.leaves)) (let k : 1 + (h - 1) ≡ h = omega arith in k) (contains_number 1 g.leaves (h - 1) (let a = above_exponent g.arity h low in omega arith))) (le-leb _ _ power) in
      later (Inner h j) (Contains-append_right (map (λ j. Leaf j) (numbers 1 g.leaves)) _ (Inner h j) (Contains-append_right (map (λ i. List i) (numbers 0 g.leaves)) (inner_nodes g) (Inner h j)
      (contains_flat (λ h. map (λ j. Inner h j) (numbers 1 (inners_at g.leaves g.arity h))) (heights g.arity g.leaves) h (Inner h j) height
      (contains_mapped (λ j. Inner h j) (numbers 1 (inners_at g.leaves g.arity h)) j (subst (Contains (numbers 1 (inners_at g.leaves g.arity h))) (let k : 1 + (j - 1) ≡ j = omega arith in k) (contains_number 1 (inners_at g.leaves g.arity h) (j - 1) (omega arith)))))))

  in_level : (h j : ℕ) → 1 ≤ j → j * g.arity ^ h ≤ g.leaves → Contains (nodes_of g) (level_node h j)
  in_level zero j j_low within = in_Leaf j j_low (let p : g.arity ^ 0 ≡ 1 = pow-zero g.arity in let m : j * g.arity ^ 0 ≡ j = ap (λ x. j * x) p ∙ omega arith in omega arith)
  in_level (suc h) j j_low within = in_Inner (suc h) j (omega arith) j_low within

  height_of : (h : ℕ) → Contains (heights g.arity g.leaves) h → (1 ≤ h) × (g.arity ^ h ≤ g.leaves)
  height_of h c =
      let passes : leb (g.arity ^ h) g.leaves ≡ true = All-contains (λ x. leb (g.arity ^ x) g.leaves ≡ true) (heights g.arity g.leaves) h (filter_passes (λ x. leb (g.arity ^ x) g.leaves) (numbers 1 g.leaves)) c in
      let one : 1 ≤ h = All-contains (λ x. 1 ≤ x) (heights g.arity g.leaves) h (All-filter (λ x. leb (g.arity ^ x) g.leaves) (λ x. 1 ≤ x) (numbers 1 g.leaves) (from_one g.leaves)) c in
      (one, leb-true _ _ passes)
    where
      from_one : (n : ℕ) → All (λ x. 1 ≤ x) (numbers 1 n)
      from_one n = All-weaker (Contains (numbers 1 n)) (λ x. 1 ≤ x) (λ x there. let r = number_of 1 n x there in let e = r.2 in omega arith) (numbers 1 n) (All-contains_itself (numbers 1 n))

  list_ends : (i : ℕ) → i < g.leaves → All Ends (list_edges g.weight i)
  unfolding Ends
  list_ends i within =
      let a = in_leaf i (omega arith) in
      let b = in_leaf (suc i) (omega arith) in
      let l = in_List i within in
      All-from_recursion Ends (list_edges g.weight i) ((a, l), ((b, l), ((l, a), ((l, b), tt))))

  child_ends : (h j c : ℕ) → 1 ≤ j → j * g.arity ^ (h + 1) ≤ g.leaves → Contains (numbers ((j - 1) * g.arity + 1) g.arity) c → All Ends (child_edges g.weight h j c)
  unfolding Ends
  child_ends h j c j_low within there =
      let r = number_of ((j - 1) * g.arity + 1) g.arity c there in
      let e = r.2 in
      let small = r.1 in
      let sum = child_sum j g.arity j_low in
      let c_high : c ≤ j * g.arity = omega arith in
      let power : g.arity ^ (h + 1) ≡ g.arity * g.arity ^ h = ap (λ k. g.arity ^ k) (add-one h) ∙ (pow-suc g.arity h ∙ mul_comm (g.arity ^ h) g.arity) in
      let regroup : j * g.arity * g.arity ^ h ≡ j * g.arity ^ (h + 1) = mul_assoc j g.arity (g.arity ^ h) ∙ ap (λ x. j * x) (sym power) in
      let below : c * g.arity ^ h ≤ g.leaves = (let m = mul-le-mul_right (g.arity ^ h) c_high in omega arith) in
      let node = in_Inner (h + 1) j (omega arith) j_low within in
      let child = in_level h c (omega arith) below in
      All-from_recursion Ends (child_edges g.weight h j c) ((node, child), ((child, node), tt))

  level_ends : (h : ℕ) → Contains (heights g.arity g.leaves) h → All Ends (level_edges g.weight g.leaves g.arity h)
  level_ends h there =
      let at = height_of h there in
      let e : h - 1 + 1 ≡ h = (let x = at.0 in omega arith) in
      let positive : 0 < g.arity ^ h = one-le-pow h g.arity (omega arith) in
      all_flat Ends (inner_edges g.weight g.arity (h - 1)) (numbers 1 (inners_at g.leaves g.arity h)) (λ j jn.
      let r = number_of 1 (inners_at g.leaves g.arity h) j jn in
      let j_low : 1 ≤ j = (let y = r.2 in omega arith) in
      let within : j * g.arity ^ h ≤ g.leaves = (le-div_iff_mul-le positive).0 (let x = r.1 in let y = r.2 in omega arith) in
      all_flat Ends (child_edges g.weight (h - 1) j) (numbers ((j - 1) * g.arity + 1) g.arity) (λ c cn. child_ends (h - 1) j c j_low (subst (λ k. j * g.arity ^ k ≤ g.leaves) (sym e) within) cn))

  now_ends : (m : Bool) → ((x : NodeId) → Contains (cond m (Now ∷ Recent ∷ []) []) x → Contains (nodes_of g) x) → All Ends (cond m (edge Root Now 0 via.Now ∷ []) [])
  unfolding Ends
  now_ends true put = All-from_recursion Ends (edge Root Now 0 via.Now ∷ []) ((in_root, put Now (0, omega arith, refl)), tt)
  now_ends false put = All-nil Ends

  recent_ends : (m : Bool) → ((x : NodeId) → Contains (cond m (Now ∷ Recent ∷ []) []) x → Contains (nodes_of g) x) → All Ends (cond m (recent_edges g.leaves) [])
  unfolding Ends
  recent_ends true put =
      let a = put Now (0, omega arith, refl) in
      let b = put Recent (1, omega arith, refl) in
      let l = in_leaf g.leaves (omega arith) in
      All-from_recursion Ends (recent_edges g.leaves) ((a, b), ((b, a), ((b, l), ((l, b), tt))))
  recent_ends false put = All-nil Ends

  top_ends : (h : ℕ) → Contains (heights g.arity g.leaves) h → Ends (top_edge g.weight h)
  unfolding Ends
  top_ends h there = let at = height_of h there in (in_root, in_Inner h 1 at.0 (omega arith) (let x = at.1 in let o : 1 * g.arity ^ h ≡ g.arity ^ h = one-mul (g.arity ^ h) in omega arith))

  base_ends : (b : ℕ × NodeId) → Contains (nodes_of g) b.1 → Ends (base_edge b)
  unfolding Ends
  base_ends b c = (in_root, c)

  pub ends_in : All Ends (edges_of g)
  ends_in =
      All-filter (λ (e : Edge). not (is_root e.to)) Ends _
      (All-append Ends (first_edges g) _
      (All-append Ends (cond g.memory (edge Root Now 0 via.Now ∷ []) []) _ (now_ends g.memory in_memory)
      (All-append Ends (map base_edge g.bases) _ (All-map Ends base_edge g.bases (All-weaker (λ (b : ℕ × NodeId). Contains (nodes_of g) b.1) (λ b. Ends (base_edge b)) base_ends g.bases bases_in))
      (All-map Ends (top_edge g.weight) (heights g.arity g.leaves) (All-weaker (Contains (heights g.arity g.leaves)) (λ h. Ends (top_edge g.weight h)) top_ends (heights g.arity g.leaves) (All-contains_itself (heights g.arity g.leaves))))))
      (All-append Ends (flat_map (list_edges g.weight) (numbers 0 g.leaves)) _
      (all_flat Ends (list_edges g.weight) (numbers 0 g.leaves) (λ i c. list_ends i (let r = number_of 0 g.leaves i c in let x = r.1 in let y = r.2 in omega arith)))
      (All-append Ends (flat_map (level_edges g.weight g.leaves g.arity) (heights g.arity g.leaves)) _
      (all_flat Ends (level_edges g.weight g.leaves g.arity) (heights g.arity g.leaves) level_ends) (recent_ends g.memory in_memory))))

  -- what a node of the graph is
  pub nodes_are : All (IsGraphNode g.leaves g.arity) (nodes_of g)
  nodes_are =
      All-cons (IsGraphNode g.leaves g.arity) Root _ tt
      (All-append (IsGraphNode g.leaves g.arity) (cond g.memory (Now ∷ Recent ∷ []) []) _ (memory_are g.memory)
      (All-append (IsGraphNode g.leaves g.arity) (map (λ j. Leaf j) (numbers 1 g.leaves)) _
      (All-map (IsGraphNode g.leaves g.arity) (λ j. Leaf j) (numbers 1 g.leaves) (All-weaker (Contains (numbers 1 g.leaves)) (λ j. IsGraphNode g.leaves g.arity (Leaf j))
      (λ j c. (let r = number_of 1 g.leaves j c in let e = r.2 in let i = r.1 in (omega arith, omega arith))) (numbers 1 g.leaves) (All-contains_itself (numbers 1 g.leaves))))
      (All-append (IsGraphNode g.leaves g.arity) (map (λ i. List i) (numbers 0 g.leaves)) (inner_nodes g)
      (All-map (IsGraphNode g.leaves g.arity) (λ i. List i) (numbers 0 g.leaves) (All-weaker (Contains (numbers 0 g.leaves)) (λ i. IsGraphNode g.leaves g.arity (List i))
      (λ i c. (let r = number_of 0 g.leaves i c in let e = r.2 in let k = r.1 in omega arith)) (numbers 0 g.leaves) (All-contains_itself (numbers 0 g.leaves))))
      (all_flat (IsGraphNode g.leaves g.arity) (λ h. map (λ j. Inner h j) (numbers 1 (inners_at g.leaves g.arity h))) (heights g.arity g.leaves) (λ h hc.
      All-map (IsGraphNode g.leaves g.arity) (λ j. Inner h j) (numbers 1 (inners_at g.leaves g.arity h)) (All-weaker (Contains (numbers 1 (inners_at g.leaves g.arity h))) (λ j. IsGraphNode g.leaves g.arity (Inner h j))
      (λ j c. (let at = height_of h hc in let r = number_of 1 (inners_at g.leaves g.arity h) j c in let e = r.2 in let k = r.1 in let d = div-le_self g.leaves (g.arity ^ h) in (at.0, omega arith, omega arith, at.1)))
      (numbers 1 (inners_at g.leaves g.arity h)) (All-contains_itself (numbers 1 (inners_at g.leaves g.arity h)))))))))
    where
      memory_are : (m : Bool) → All (IsGraphNode g.leaves g.arity) (cond m (Now ∷ Recent ∷ []) [])
      memory_are true = All-from_recursion (IsGraphNode g.leaves g.arity) (Now ∷ Recent ∷ []) (tt, (tt, tt))
      memory_are false = All-nil (IsGraphNode g.leaves g.arity)

  -- so each edge can be told by indices, which are below the number of nodes
  pub has_ends : All (HasEnds g.leaves g.arity) (edges_of g)
  has_ends = All-weaker Ends (HasEnds g.leaves g.arity) (λ e ends. (All-contains (IsGraphNode g.leaves g.arity) (nodes_of g) e.from nodes_are ends.0, All-contains (IsGraphNode g.leaves g.arity) (nodes_of g) e.to nodes_are ends.1)) (edges_of g) ends_in

  node_index_below : (v : NodeId) → Contains (nodes_of g) v → node_index_of g v < length (nodes_of g)
  node_index_below v c =
      let there : slice_get (nodes_of g) c.0 ≡ Some v = slice_get-get_or (nodes_of g) c.0 v c.1 ∙ ap (λ z. Some z) c.2 in
      let s = stands g c.0 v there in
      let h = c.1 in
      omega arith

  pub links_are : AreLinks (map (link_in g.leaves g.arity g.memory) (edges_of g)) (length (nodes_of g))
  links_are = All-map (IsLink (length (nodes_of g))) (link_in g.leaves g.arity g.memory) (edges_of g)
      (All-weaker Ends (λ e. IsLink (length (nodes_of g)) (link_in g.leaves g.arity g.memory e)) (λ e ends. record { tail = node_index_below e.from ends.0; head = node_index_below e.to ends.1 }) (edges_of g) ends_in)

  -- ---- every node is reached

  now_there : g.memory ≡ true → Contains (edges_of g) (edge Root Now 0 via.Now)
  now_there e =
      let x = edge Root Now 0 via.Now in
      contains_filter (λ (e : Edge). not (is_root e.to)) _ x
      (Contains-append_left (first_edges g) _ x (Contains-append_left (cond g.memory (x ∷ []) []) _ x (subst (λ m. Contains (cond m (edge Root Now 0 via.Now ∷ []) []) (edge Root Now 0 via.Now)) (sym e) (0, omega arith, refl)))) refl

  recent_there : g.memory ≡ true → Contains (edges_of g) (edge Now Recent 0 (via.Recent Back))
  recent_there e =
      let x = edge Now Recent 0 (via.Recent Back) in
      contains_filter (λ (e : Edge). not (is_root e.to)) _ x
      (Contains-append_right (first_edges g) _ x (Contains-append_right (flat_map (list_edges g.weight) (numbers 0 g.leaves)) _ x
      (Contains-append_right (flat_map (level_edges g.weight g.leaves g.arity) (heights g.arity g.leaves)) _ x
      (subst (λ m. Contains (cond m (recent_edges g.leaves) []) (edge Now Recent 0 (via.Recent Back))) (sym e) (0, omega arith, refl))))) refl

  root_reached : IsReached g Root 0
  root_reached = record { steps = []; walk = refl; weighs = omega arith }

  pub small_height : (h : ℕ) → g.leaves < 2 ^ 28 → g.arity ^ h ≤ g.leaves → h ≤ 28
  small_height h few le = by (cases_lt 28 h)
    where
      by : (28 < h) ⊎ (h ≤ 28) → h ≤ 28
      by (inl above) = absurd (let k : 28 ≤ h = omega arith in let a : 2 ^ 28 ≤ 2 ^ h = pow_mono k in let b : 2 ^ h ≤ g.arity ^ h = pow-le-pow_left low h in omega arith)
      by (inr within) = within

  -- the node is reached over the lists and so many deltas that weigh at most so much
  abbrev pub IsNear : ℕ → ℕ → NodeId → Type 0
  IsNear top bound v = IsReached g v (lists_before g.weight g.leaves + top * bound)

  memory_reached : (top bound : ℕ) (m : Bool) → g.memory ≡ m → All (IsNear top bound) (cond m (Now ∷ Recent ∷ []) [])
  memory_reached top bound true e =
      let now : IsReached g Now (0 + 0) = step_on g (edge Root Now 0 via.Now) 0 (now_there e) root_reached in
      let recent : IsReached g Recent (0 + 0 + 0) = step_on g (edge Now Recent 0 (via.Recent Back)) (0 + 0) (recent_there e) now in
      All-from_recursion (IsNear top bound) (Now ∷ Recent ∷ []) (lighter g Now _ _ (omega arith) now, (lighter g Recent _ _ (omega arith) recent, tt))
  memory_reached top bound false e = All-nil (IsNear top bound)

  leaf_there : (top bound j : ℕ) → 1 ≤ j → j ≤ g.leaves → IsNear top bound (Leaf j)
  leaf_there top bound zero one within = absurd (omega arith)
  leaf_there top bound (suc j) one within = lighter g (Leaf (suc j)) (lists_before g.weight (suc j)) _ (let b = before_all g.weight (suc j) g.leaves within in omega arith) (leaf_reached g (suc j) within)

  list_there : (top bound i : ℕ) → i < g.leaves → IsNear top bound (List i)
  list_there top bound i within = lighter g (List i) (lists_before g.weight (i + 1)) _ (let b = before_all g.weight (i + 1) g.leaves (omega arith) in omega arith) (list_reached g i within (leaf_reached g i (omega arith)))

  inner_there : (top bound h j : ℕ) → ((h : ℕ) → g.arity ^ h ≤ g.leaves → h ≤ top) → ((k : Key) → g.weight k ≤ bound) → 1 ≤ h → g.arity ^ h ≤ g.leaves → (i : ℕ) × (i < inners_at g.leaves g.arity h) × (j ≡ 1 + i) → IsNear top bound (Inner h j)
  inner_there top bound zero j small light one le r = absurd (omega arith)
  inner_there top bound (suc h) j small light one le r =
      let within : j * g.arity ^ suc h ≤ g.leaves = (le-div_iff_mul-le (one-le-pow (suc h) g.arity (omega arith))).0 (let x = r.1 in let y = r.2 in omega arith) in
      let reached = level_reached g bound low light (suc h) j (let y = r.2 in omega arith) within in
      lighter g (Inner (suc h) j) _ _ (let m : suc h * bound ≤ top * bound = mul-le-mul_right bound (small (suc h) le) in omega arith) reached

  pub all_reached : (top bound : ℕ) → ((h : ℕ) → g.arity ^ h ≤ g.leaves → h ≤ top) → ((k : Key) → g.weight k ≤ bound) → All (IsNear top bound) (nodes_of g)
  all_reached top bound small light =
      All-cons (IsNear top bound) Root _ (lighter g Root 0 _ (omega arith) root_reached)
      (All-append (IsNear top bound) (cond g.memory (Now ∷ Recent ∷ []) []) _ (memory_reached top bound g.memory refl)
      (All-append (IsNear top bound) (map (λ j. Leaf j) (numbers 1 g.leaves)) _
      (All-map (IsNear top bound) (λ j. Leaf j) (numbers 1 g.leaves) (All-weaker (Contains (numbers 1 g.leaves)) (λ j. (IsNear top bound) (Leaf j))
      (λ j c. (let r = number_of 1 g.leaves j c in leaf_there top bound j (let e = r.2 in omega arith) (let e = r.2 in let i = r.1 in omega arith))) (numbers 1 g.leaves) (All-contains_itself (numbers 1 g.leaves))))
      (All-append (IsNear top bound) (map (λ i. List i) (numbers 0 g.leaves)) (inner_nodes g)
      (All-map (IsNear top bound) (λ i. List i) (numbers 0 g.leaves) (All-weaker (Contains (numbers 0 g.leaves)) (λ i. (IsNear top bound) (List i))
      (λ i c. (let r = number_of 0 g.leaves i c in list_there top bound i (let e = r.2 in let k = r.1 in omega arith))) (numbers 0 g.leaves) (All-contains_itself (numbers 0 g.leaves))))
      (all_flat (IsNear top bound) (λ h. map (λ j. Inner h j) (numbers 1 (inners_at g.leaves g.arity h))) (heights g.arity g.leaves) (λ h hc.
      All-map (IsNear top bound) (λ j. Inner h j) (numbers 1 (inners_at g.leaves g.arity h)) (All-weaker (Contains (numbers 1 (inners_at g.leaves g.arity h))) (λ j. (IsNear top bound) (Inner h j))
      (λ j c. inner_there top bound h j small light (height_of h hc).0 (height_of h hc).1 (number_of 1 (inners_at g.leaves g.arity h) j c))
      (numbers 1 (inners_at g.leaves g.arity h)) (All-contains_itself (numbers 1 (inners_at g.leaves g.arity h)))))))))
