-- The records that a tree of plans enters: a list is held after it is entered, and an index keeps each of them.
use Rattle.std.proofs.Common.{◌≡◌, ℕ, zero, suc, ◌+◌, ◌-◌, ◌*◌, ◌/◌, ◌^◌, ◌<◌, ◌≤◌, Bool, true, false, cond, List as ListOf, [], ◌∷◌, ◌++◌, map, Option, Some, None, refl, sym, ap, subst, ◌∙◌, arith, ⊎_elim, le-div_iff_mul-le}
use Rattle.std.specs.Prelude.{◌≢◌, not, nat_le, get_or, slice_get}
use Rattle.std.specs.Option.{option_map, option_to_list}
use Rattle.std.specs.List.{All, AllByRecursion, Contains, flat_map}
use Rattle.std.proofs.lemmas.Bool.{and_from, le-leb, lt-ltb, leb-true}
use Rattle.std.proofs.lemmas.List.Elements.{All-append, All-contains, All-contains_itself, All-filter, All-from_recursion, All-map, All-nil, All-weaker, Contains-append_left, Contains-append_right, Contains-push_cases, filter_passes}
use Rattle.std.proofs.lemmas.Option.{same_Some, slice_get-map}
use Rattle.dg_graph.specs.declared.element.Columns.{Columns}
use Rattle.dg_history.specs.declared.node.Key.{Key}
use Rattle.dg_history.specs.declared.node.Key.TheVariants as key
use Rattle.dg_history.specs.declared.node.NodeId.{NodeId}
use Rattle.dg_history.specs.declared.node.NodeId.TheVariants.{Root, Now, Recent, Leaf, List, Inner}
use Rattle.dg_history.specs.declared.params.Params.{Params}
use Rattle.dg_history.specs.History.{are_parameters}
use Rattle.dg_index.specs.Hierarchy.{leaves, numbers, parent}
use Rattle.dg_index.specs.IndexKeys.{AreKept, among, key_exists}
use Rattle.dg_index.specs.IndexRecords.{heights}
use Rattle.dg_index.specs.OpenedIndex.{Opening, event_total}
use Rattle.dg_index.proofs.IndexKeyRecords.{exists_held, found}
use Rattle.dg_index.proofs.IndexRecordColumns.{parent_is, power_some}
use Rattle.dg_index.proofs.OpenedIndexHistories.{large_parameters}
use Rattle.dg_plan.specs.declared.edge.Edge.{Edge}
use Rattle.dg_plan.specs.declared.edge.Via.{Via}
use Rattle.dg_plan.specs.declared.edge.Via.TheVariants as via
use Rattle.dg_plan.specs.declared.edge.Way.{Way}
use Rattle.dg_plan.specs.declared.edge.Way.TheVariants.{Same, Forward, Back}
use Rattle.dg_plan.specs.IndexGraph.{Ground, arc_of, arcs_of, base_edge, child_edges, edge, edges_of, first_edges, inner_edges, inners_at, is_root, leaf, level_edges, level_node, list_edges, recent_edges, top_edge}
use Rattle.dg_plan.specs.Walks.{Arc, Graft, Grows, IsTree, steps_of}
use Rattle.dg_plan.proofs.EnteredRecordTrees.{all_flat, number_of}
use Rattle.dg_plan.proofs.WalkTrees.{tree_grows}
use Rattle.dg_fold.specs.BytesRead.{HoldsWhatIsEntered, IsEntered, IsKept, entered_by}
use Rattle.dg_fold.specs.HistoryTrees.{HoldsNoList}
use Rattle.dg_plan.specs.TreePaths.{edges_at}
use Rattle.dg_retrieval.specs.KeptGraph.{index_edges, index_ground}
use Rattle.dg_retrieval.proofs.BranchTrees.{at_index}

-- ---- the edges of the graph of an index, form by form

-- what holds of each form of edge
pub record OfEachForm (g : Ground) (P : Edge → Type 0) : Type 0 where
  pub now : g.memory ≡ true → P (edge Root Now 0 via.Now)
  pub base : (b : ℕ × NodeId) → Contains g.bases b → P (base_edge b)
  pub top : (h : ℕ) → 1 ≤ h → g.arity ^ h ≤ g.leaves → P (top_edge g.weight h)
  pub list : (i : ℕ) → i < g.leaves → AllByRecursion P (list_edges g.weight i)
  pub child : (h j c : ℕ) → 1 ≤ j → j ≤ g.leaves / g.arity ^ (h + 1) → (j - 1) * g.arity + 1 ≤ c → c < (j - 1) * g.arity + 1 + g.arity → AllByRecursion P (child_edges g.weight h j c)
  pub recent : g.memory ≡ true → AllByRecursion P (recent_edges g.leaves)

height_of : (k m h : ℕ) → Contains (heights k m) h → (1 ≤ h) × (k ^ h ≤ m)
height_of k m h there =
    let passes : nat_le (k ^ h) m ≡ true = All-contains (λ x. nat_le (k ^ x) m ≡ true) (heights k m) h (filter_passes (λ x. nat_le (k ^ x) m) (numbers 1 m)) there in
    let one : 1 ≤ h = All-contains (λ x. 1 ≤ x) (heights k m) h (All-filter (λ x. nat_le (k ^ x) m) (λ x. 1 ≤ x) (numbers 1 m) from_one) there in
    (one, leb-true _ _ passes)
  where
    from_one : All (λ x. 1 ≤ x) (numbers 1 m)
    from_one = All-weaker (Contains (numbers 1 m)) (λ x. 1 ≤ x) (λ x in'. let r = number_of 1 m x in' in let e = r.2 in omega arith) (numbers 1 m) (All-contains_itself (numbers 1 m))

-- what holds of each form holds of each edge
pub each_edge : (g : Ground) (P : Edge → Type 0) → OfEachForm g P → All P (edges_of g)
each_edge g P of =
    All-filter (λ (e : Edge). not (is_root e.to)) P _
    (All-append P (first_edges g) _
    (All-append P (cond g.memory (edge Root Now 0 via.Now ∷ []) []) _ (first g.memory refl)
    (All-append P (map base_edge g.bases) _
    (All-map P base_edge g.bases (All-weaker (Contains g.bases) (λ b. P (base_edge b)) of.base g.bases (All-contains_itself g.bases)))
    (All-map P (top_edge g.weight) (heights g.arity g.leaves)
    (All-weaker (Contains (heights g.arity g.leaves)) (λ h. P (top_edge g.weight h)) (λ h there. let r = height_of g.arity g.leaves h there in of.top h r.0 r.1) (heights g.arity g.leaves) (All-contains_itself (heights g.arity g.leaves))))))
    (All-append P (flat_map (list_edges g.weight) (numbers 0 g.leaves)) _
    (all_flat P (list_edges g.weight) (numbers 0 g.leaves) (λ i there.
    All-from_recursion P (list_edges g.weight i) (of.list i (let r = number_of 0 g.leaves i there in let a = r.1 in let b = r.2 in omega arith))))
    (All-append P (flat_map (level_edges g.weight g.leaves g.arity) (heights g.arity g.leaves)) _
    (all_flat P (level_edges g.weight g.leaves g.arity) (heights g.arity g.leaves) level) (last g.memory refl))))
  where
    first : (m : Bool) → g.memory ≡ m → All P (cond m (edge Root Now 0 via.Now ∷ []) [])
    first true there = All-from_recursion P (edge Root Now 0 via.Now ∷ []) (of.now there, tt)
    first false there = All-nil P

    last : (m : Bool) → g.memory ≡ m → All P (cond m (recent_edges g.leaves) [])
    last true there = All-from_recursion P (recent_edges g.leaves) (of.recent there)
    last false there = All-nil P

    level : (h : ℕ) → Contains (heights g.arity g.leaves) h → All P (level_edges g.weight g.leaves g.arity h)
    level h there =
        let low = (height_of g.arity g.leaves h there).0 in
        let up : h ≡ h - 1 + 1 = omega arith in
        all_flat P (inner_edges g.weight g.arity (h - 1)) (numbers 1 (inners_at g.leaves g.arity h)) (λ j jc.
        all_flat P (child_edges g.weight (h - 1) j) (numbers ((j - 1) * g.arity + 1) g.arity) (λ c cc'.
        let a = number_of 1 (inners_at g.leaves g.arity h) j jc in
        let a_small = a.1 in
        let a_is = a.2 in
        let b = number_of ((j - 1) * g.arity + 1) g.arity c cc' in
        let b_small = b.1 in
        let b_is = b.2 in
        let within : j ≤ g.leaves / g.arity ^ h = omega arith in
        All-from_recursion P (child_edges g.weight (h - 1) j c)
        (of.child (h - 1) j c (omega arith) (subst (λ n. j ≤ g.leaves / g.arity ^ n) up within) (omega arith) (omega arith))))

-- ---- a list is entered before it is held

-- an edge that holds a record leaves the list that the record is of, and one that enters a list enters its record
record IsByLists (e : Edge) : Type 0 where
  held : (k : Key) (way : Way) → e.via ≡ via.Held k way → (i : ℕ) × (k ≡ key.List i) × (e.from ≡ List i)
  enters : (i : ℕ) → e.to ≡ List i → (way : Way) × (e.via ≡ via.Paid (key.List i) way)

leaf_no_list : (j i : ℕ) → leaf j ≡ List i → ⊥
leaf_no_list zero i is = absurd cc
leaf_no_list (suc j) i is = absurd cc

level_no_list : (h j i : ℕ) → level_node h j ≡ List i → ⊥
level_no_list zero j i is = absurd cc
level_no_list (suc h) j i is = absurd cc

abbrev key_in : Via → Option Key
key_in via.Now = None
key_in (via.Base handle) = None
key_in (via.Paid k way) = None
key_in (via.Held k way) = Some k
key_in (via.Recent way) = None

abbrev number_in : NodeId → ℕ
number_in Root = 0
number_in Now = 0
number_in Recent = 0
number_in (Leaf j) = 0
number_in (List i) = i
number_in (Inner h j) = 0

-- an edge that neither holds a record nor enters a list
no_list : (e : Edge) → key_in e.via ≡ None → ((i : ℕ) → e.to ≡ List i → ⊥) → IsByLists e
no_list e holds_none off = record {
  held = λ k way is. absurd (let some : None ≡ Some k = sym holds_none ∙ ap key_in is in cc);
  enters = λ i is. absurd (off i is);
}

-- an edge that holds the record of the list that it leaves
from_list : (i : ℕ) (to : NodeId) (way : Way) → ((k : ℕ) → to ≡ List k → ⊥) → IsByLists (edge (List i) to 0 (via.Held (key.List i) way))
from_list i to way off = record {
  held = λ k other is. (i, sym (same_Some _ _ (ap key_in is)), refl);
  enters = λ k is. absurd (off k is);
}

-- an edge that enters a list and its record
into_list : (from : NodeId) (i weight : ℕ) (way : Way) → IsByLists (edge from (List i) weight (via.Paid (key.List i) way))
into_list from i weight way = record {
  held = λ k other is. absurd (let some : None ≡ Some k = ap key_in is in cc);
  enters = λ k is. (way, ap (λ n. via.Paid (key.List (number_in n)) way) is);
}

by_lists : (g : Ground) → HoldsNoList g → OfEachForm g IsByLists
by_lists g none = record {
  now = λ there. no_list (edge Root Now 0 via.Now) refl (λ i is. absurd cc);
  base = λ b there. no_list (base_edge b) refl (λ i is. All-contains (λ (b : ℕ × NodeId). (i : ℕ) → b.1 ≢ List i) g.bases b none there i is);
  top = λ h low within. no_list (top_edge g.weight h) refl (λ i is. absurd cc);
  list = λ i within. (
    into_list (leaf i) i (g.weight (key.List i)) Same,
    (into_list (leaf (suc i)) i (g.weight (key.List i)) Back, (from_list i (leaf i) Same (leaf_no_list i), (from_list i (leaf (suc i)) Forward (leaf_no_list (suc i)), tt))),
  );
  child = λ h j c some few low high. (
    no_list (edge (Inner (h + 1) j) (level_node h c) (g.weight (key.Down (h + 1) c)) (via.Paid (key.Down (h + 1) c) Forward)) refl (level_no_list h c),
    (no_list (edge (level_node h c) (Inner (h + 1) j) (g.weight (key.Down (h + 1) c)) (via.Paid (key.Down (h + 1) c) Back)) refl (λ i is. absurd cc), tt),
  );
  recent = λ there. (
    no_list (edge Now Recent 0 (via.Recent Back)) refl (λ i is. absurd cc),
    (
      no_list (edge Recent Now 0 (via.Recent Forward)) refl (λ i is. absurd cc),
      (
        no_list (edge Recent (leaf g.leaves) 0 (via.Recent Same)) refl (leaf_no_list g.leaves),
        (no_list (edge (leaf g.leaves) Recent 0 (via.Recent Same)) refl (λ i is. absurd cc), tt),
      ),
    ),
  );
}

-- the record of each list of the tree is entered
abbrev AreEntered : ListOf NodeId → ListOf Key → Type 0
AreEntered tree entered = (i : ℕ) → Contains tree (List i) → Contains entered (key.List i)

is_entered : (tree : ListOf NodeId) (entered : ListOf Key) → AreEntered tree entered → (e : Edge) → IsByLists e → Contains tree e.from → IsEntered entered e.via
is_entered tree entered are e by from = at e.via refl
  where
    at : (v : Via) → e.via ≡ v → IsEntered entered v
    at via.Now is = tt
    at (via.Base handle) is = tt
    at (via.Paid k way) is = tt
    at (via.Held k way) is =
        let r = by.held k way is in
        subst (Contains entered) (sym r.1) (are r.0 (subst (Contains tree) r.2 from))
    at (via.Recent way) is = tt

holds_from : (edges : ListOf Edge) → All IsByLists edges → (tree : ListOf NodeId) (entered : ListOf Key) (steps : ListOf ℕ) → AreEntered tree entered → Grows (arcs_of edges) tree steps
    → HoldsWhatIsEntered entered (edges_at edges steps)
holds_from edges all tree entered [] are grows = tt
holds_from edges all tree entered (i ∷ steps) are grows = by (λ e more on. holds_from edges all (tree ++ e.to ∷ []) (entered ++ entered_by e.via) steps more on) (slice_get edges i) refl
  where
    more : (e : Edge) → IsByLists e → AreEntered (tree ++ e.to ∷ []) (entered ++ entered_by e.via)
    more e lists k there =
        ⊎_elim (λ (old : Contains tree (List k)). Contains-append_left entered (entered_by e.via) (key.List k) (are k old))
        (λ (new : e.to ≡ List k).
        let r = lists.enters k new in
        Contains-append_right entered (entered_by e.via) (key.List k) (subst (λ v. Contains (entered_by v) (key.List k)) (sym r.1) (0, omega arith, refl)))
        (Contains-push_cases tree e.to (List k) there)

    by : ((e : Edge) → AreEntered (tree ++ e.to ∷ []) (entered ++ entered_by e.via) → Grows (arcs_of edges) (tree ++ e.to ∷ []) steps → HoldsWhatIsEntered (entered ++ entered_by e.via) (edges_at edges steps)) → (o : Option Edge) → slice_get edges i ≡ o → HoldsWhatIsEntered entered (option_to_list o ++ edges_at edges steps)
    by rest None is = absurd (let none : None ≡ Some grows.0 = sym (slice_get-map arc_of edges i ∙ ap (option_map arc_of) is) ∙ grows.1 in cc)
    by rest (Some e) is =
        let same : arc_of e ≡ grows.0 = same_Some _ _ (sym (slice_get-map arc_of edges i ∙ ap (option_map arc_of) is) ∙ grows.1) in
        let lists : IsByLists e = at_index IsByLists edges i e all is in
        let from : Contains tree e.from = subst (Contains tree) (sym (ap (λ (x : Arc NodeId). x.from) same)) grows.2 in
        let on : Grows (arcs_of edges) (tree ++ e.to ∷ []) steps = subst (λ n. Grows (arcs_of edges) (tree ++ n ∷ []) steps) (sym (ap (λ (x : Arc NodeId). x.to) same)) grows.4 in
        (is_entered tree entered are e lists from, rest e (more e lists) on)

-- Along the steps of a tree, each edge that holds a record comes after one that enters it, where no base holds the graph of a list.
pub tree_holds : (g : Ground) → HoldsNoList g → (targets : ListOf NodeId) (grafts : ListOf (Graft NodeId)) → IsTree (arcs_of (edges_of g)) (Root ∷ []) targets grafts
    → HoldsWhatIsEntered [] (edges_at (edges_of g) (steps_of grafts))
tree_holds g none targets grafts t =
    holds_from (edges_of g) (each_edge g IsByLists (by_lists g none)) (Root ∷ []) [] (steps_of grafts) first (tree_grows (arcs_of (edges_of g)) (Root ∷ []) targets grafts t)
  where
    first : AreEntered (Root ∷ []) []
    first i there = by there.0 there.1 there.2
      where
        by : (k : ℕ) → k < 1 → get_or (Root ∷ []) k (List i) ≡ List i → Contains [] (key.List i)
        by zero within is = absurd cc
        by (suc k) within is = absurd (omega arith)

-- ---- an index keeps each record that is entered

-- an edge that enters a record weighs what the record does, and the record is one of an index of so many events;
-- another edge weighs nothing
abbrev pub IsPaid : Params → ℕ → (Key → ℕ) → ℕ → Via → Type 0
IsPaid p n weight w via.Now = w ≡ 0
IsPaid p n weight w (via.Base handle) = w ≡ 0
IsPaid p n weight w (via.Paid k way) = (key_exists p n k ≡ true) × (w ≡ weight k)
IsPaid p n weight w (via.Held k way) = w ≡ 0
IsPaid p n weight w (via.Recent way) = w ≡ 0

pub paid_edges : (p : Params) (n : ℕ) → 0 < p.k → (g : Ground) → g.leaves ≡ leaves p n → g.arity ≡ p.k → All (λ (e : Edge). IsPaid p n g.weight e.weight e.via) (edges_of g)
paid_edges p n wide g many arity = each_edge g (λ (e : Edge). IsPaid p n g.weight e.weight e.via) (record {
  now = λ there. refl;
  base = λ b there. refl;
  top = λ h low within. (and_from (nat_le 1 h) _ (le-leb 1 h low) (le-leb (p.k ^ h) (leaves p n) (subst (λ k. k ^ h ≤ leaves p n) arity (subst (λ m. g.arity ^ h ≤ m) many within))), refl);
  list = λ i within. let there = list_there i within in ((there, refl), ((there, refl), (refl, (refl, tt))));
  child = λ h j c some few low high. let there = child_there h j c some few low high in ((there, refl), ((there, refl), tt));
  recent = λ there. (refl, (refl, (refl, (refl, tt))));
})
  where
    list_there : (i : ℕ) → i < g.leaves → key_exists p n (key.List i) ≡ true
    list_there i within = lt-ltb i (leaves p n) (subst (λ m. i < m) many within)

    child_there : (h j c : ℕ) → 1 ≤ j → j ≤ g.leaves / g.arity ^ (h + 1) → (j - 1) * g.arity + 1 ≤ c → c < (j - 1) * g.arity + 1 + g.arity → key_exists p n (key.Down (h + 1) c) ≡ true
    child_there h j c some few low high =
        let least : (j - 1) * p.k + 1 ≤ c = subst (λ k. (j - 1) * k + 1 ≤ c) arity low in
        let above : parent p.k c ≡ j = parent_is p.k j c wide some least (subst (λ k. c < (j - 1) * k + 1 + k) arity high) in
        let room : j ≤ leaves p n / p.k ^ (h + 1) = subst (λ k. j ≤ leaves p n / k ^ (h + 1)) arity (subst (λ m. j ≤ m / g.arity ^ (h + 1)) many few) in
        let within : j * p.k ^ (h + 1) ≤ leaves p n = (le-div_iff_mul-le (power_some p.k (h + 1) wide)).0 room in
        and_from (nat_le 1 (h + 1)) _ (le-leb 1 (h + 1) (omega arith))
        (and_from (nat_le 1 c) _ (le-leb 1 c (omega (arith, least))) (le-leb (parent p.k c * p.k ^ (h + 1)) (leaves p n) (subst (λ x. x * p.k ^ (h + 1) ≤ leaves p n) (sym above) within)))

-- An index keeps the record of each edge of its graph.
pub edges_kept : (o : Opening) → are_parameters o.params.l o.params.k ≡ true → AreKept o → (cols : Columns) (memory : Bool) (bases : ListOf (ℕ × NodeId)) → All (λ (e : Edge). IsKept o e.via) (index_edges o cols memory bases)
edges_kept o right kept cols memory bases =
    let large = large_parameters o.params.l o.params.k right in
    All-weaker (λ (e : Edge). IsPaid o.params (event_total o.batches) (index_ground o cols memory bases).weight e.weight e.via) (λ (e : Edge). IsKept o e.via)
    (λ e paid. by e.via e.weight paid) (index_edges o cols memory bases)
    (paid_edges o.params (event_total o.batches) (omega (arith, large.1)) (index_ground o cols memory bases) refl refl)
  where
    by : (v : Via) (w : ℕ) → IsPaid o.params (event_total o.batches) (index_ground o cols memory bases).weight w v → IsKept o v
    by via.Now w paid = tt
    by (via.Base handle) w paid = tt
    by (via.Paid k way) w paid =
        let large = large_parameters o.params.l o.params.k right in
        found o.records k (ap (among k) kept ∙ exists_held o.params (omega (arith, large.0)) large.1 o.batches k paid.0)
    by (via.Held k way) w paid = tt
    by (via.Recent way) w paid = tt
