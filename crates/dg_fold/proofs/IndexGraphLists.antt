-- Which edges of the graph of an index enter a list: those that read it, where no base holds its graph.
use Rattle.std.proofs.Common.{◌≡◌, ◌≢◌, ℕ, zero, suc, ◌+◌, ◌-◌, ◌*◌, Bool, true, false, cond, not, List as ListOf, [], ◌∷◌, ◌++◌, map, refl}
use Rattle.std.specs.List.{All, flat_map}
use Rattle.std.proofs.lemmas.List.Elements.{All-head, All-tail}
use Rattle.dg_history.specs.declared.node.NodeId.{NodeId}
use Rattle.dg_history.specs.declared.node.NodeId.TheVariants.{Root, Now, Recent, Leaf, List, Inner}
use Rattle.dg_history.specs.declared.node.Key.TheVariants as key
use Rattle.dg_plan.specs.declared.edge.Edge.{Edge}
use Rattle.dg_plan.specs.declared.edge.Via.{Via}
use Rattle.dg_plan.specs.declared.edge.Via.TheVariants as via
use Rattle.dg_plan.specs.declared.edge.Way.{Way}
use Rattle.dg_plan.specs.declared.edge.Way.TheVariants.{Same, Forward, Back}
use Rattle.dg_plan.specs.IndexGraph.{Ground, level_node, leaf, is_root, edge, base_edge, top_edge, first_edges, list_edges, child_edges, inner_edges, level_edges, recent_edges, inners_at, kept, edges_of}
use Rattle.dg_index.specs.Hierarchy.{numbers}
use Rattle.dg_index.specs.IndexRecords.{heights}
use Rattle.dg_fold.specs.HistoryTrees.{HoldsNoList}
use Rattle.dg_fold.proofs.PathIndependenceEdges.{Each, all_each, each_any, each_both, each_cond, each_flat, each_map, each_of}

-- what enters a list reads it
abbrev pub Reads : NodeId → Via → Type 0
Reads Root v = Unit {0}
Reads Now v = Unit {0}
Reads Recent v = Unit {0}
Reads (Leaf j) v = Unit {0}
Reads (List i) v = (way : Way) × (v ≡ via.Paid (key.List i) way)
Reads (Inner h j) v = Unit {0}

abbrev pub EntersAs : Edge → Type 0
EntersAs e = Reads e.to e.via

each_kept : (P : Edge → Type 0) (edges : ListOf Edge) → Each P edges → Each P (kept edges)
each_kept P [] h = tt
each_kept P (e ∷ edges) h = by (is_root e.to) (each_kept P edges h.1)
  where
    by : (b : Bool) → Each P (kept edges) → Each P (cond (not b) (e ∷ kept edges) (kept edges))
    by true rest = rest
    by false rest = (h.0, rest)

each_of_all : {X : Type 0} (P : X → Type 0) (xs : ListOf X) → All P xs → Each P xs
each_of_all P [] h = tt
each_of_all P (x ∷ xs) h = (All-head P x xs h, each_of_all P xs (All-tail P x xs h))

into_leaf : (i : ℕ) (v : Via) → Reads (leaf i) v
into_leaf zero v = tt
into_leaf (suc i) v = tt

into_level : (h j : ℕ) (v : Via) → Reads (level_node h j) v
into_level zero j v = tt
into_level (suc h) j v = tt

into_base : (n : NodeId) (v : Via) → ((i : ℕ) → n ≢ List i) → Reads n v
into_base Root v none = tt
into_base Now v none = tt
into_base Recent v none = tt
into_base (Leaf j) v none = tt
into_base (List i) v none = absurd (none i refl)
into_base (Inner h j) v none = tt

module _ (g : Ground) (no_list : HoldsNoList g) where
  lists : (i : ℕ) → Each EntersAs (list_edges g.weight i)
  lists i = ((Same, refl), ((Back, refl), (into_leaf i (via.Held (key.List i) Same), (into_leaf (suc i) (via.Held (key.List i) Forward), tt))))

  children : (h j c : ℕ) → Each EntersAs (child_edges g.weight h j c)
  children h j c = (into_level h c (via.Paid (key.Down (h + 1) c) Forward), (tt, tt))

  inners : (h j : ℕ) → Each EntersAs (inner_edges g.weight g.arity h j)
  inners h j =
      each_flat EntersAs (child_edges g.weight h j) (numbers ((j - 1) * g.arity + 1) g.arity)
      (each_any (λ c. Each EntersAs (child_edges g.weight h j c)) (children h j) (numbers ((j - 1) * g.arity + 1) g.arity))

  levels : (h : ℕ) → Each EntersAs (level_edges g.weight g.leaves g.arity h)
  levels h =
      each_flat EntersAs (inner_edges g.weight g.arity (h - 1)) (numbers 1 (inners_at g.leaves g.arity h))
      (each_any (λ j. Each EntersAs (inner_edges g.weight g.arity (h - 1) j)) (inners (h - 1)) (numbers 1 (inners_at g.leaves g.arity h)))

  recents : Each EntersAs (recent_edges g.leaves)
  recents = (tt, (tt, (into_leaf g.leaves (via.Recent Same), (tt, tt))))

  firsts : Each EntersAs (first_edges g)
  firsts =
      each_both EntersAs (cond g.memory (edge Root Now 0 via.Now ∷ []) []) (map base_edge g.bases ++ map (top_edge g.weight) (heights g.arity g.leaves))
      (each_cond EntersAs g.memory (edge Root Now 0 via.Now ∷ []) (tt, tt))
      (each_both EntersAs (map base_edge g.bases) (map (top_edge g.weight) (heights g.arity g.leaves))
      (each_map EntersAs base_edge g.bases
      (each_of (λ (b : ℕ × NodeId). (i : ℕ) → b.1 ≢ List i) (λ (b : ℕ × NodeId). EntersAs (base_edge b)) (λ b none. into_base b.1 (via.Base b.0) none) g.bases
      (each_of_all (λ (b : ℕ × NodeId). (i : ℕ) → b.1 ≢ List i) g.bases no_list)))
      (each_map EntersAs (top_edge g.weight) (heights g.arity g.leaves) (each_any (λ h. EntersAs (top_edge g.weight h)) (λ h. tt) (heights g.arity g.leaves))))

  pub all_read : All EntersAs (edges_of g)
  all_read =
      let in_lists = flat_map (list_edges g.weight) (numbers 0 g.leaves) in
      let in_levels = flat_map (level_edges g.weight g.leaves g.arity) (heights g.arity g.leaves) in
      let in_recent = cond g.memory (recent_edges g.leaves) [] in
      all_each EntersAs (edges_of g)
      (each_kept EntersAs (first_edges g ++ (in_lists ++ (in_levels ++ in_recent)))
      (each_both EntersAs (first_edges g) (in_lists ++ (in_levels ++ in_recent)) firsts
      (each_both EntersAs in_lists (in_levels ++ in_recent)
      (each_flat EntersAs (list_edges g.weight) (numbers 0 g.leaves) (each_any (λ i. Each EntersAs (list_edges g.weight i)) lists (numbers 0 g.leaves)))
      (each_both EntersAs in_levels in_recent
      (each_flat EntersAs (level_edges g.weight g.leaves g.arity) (heights g.arity g.leaves)
      (each_any (λ h. Each EntersAs (level_edges g.weight g.leaves g.arity h)) levels (heights g.arity g.leaves)))
      (each_cond EntersAs g.memory (recent_edges g.leaves) recents)))))
