-- What the path to a node begins with, within the edges of a tree: the tree enters each node once, so the last edge into
-- a node is that of its path.
use Rattle.std.proofs.Common.{◌≡◌, ℕ, suc, ◌+◌, Bool, true, false, List as ListOf, [], ◌∷◌, ◌++◌, map, Option, Some, None, append-nil, drop, length, length-append, reverse, take, inl, inr, refl, sym, ap, subst, ◌∙◌, arith, append_assoc}
use Rattle.std.specs.Prelude.{◌≢◌, ◌==◌, if◌then◌else◌, slice_get}
use Rattle.std.specs.List.{All, Contains}
use Rattle.std.specs.Option.{option_map, option_to_list}
use Rattle.std.proofs.lemmas.Bool.{and_from, and_parts, eq-eqb, eqb-true, false≢true}
use Rattle.std.proofs.lemmas.List.{drop_more, reverse-append, take-append-drop}
use Rattle.std.proofs.lemmas.List.Elements.{All-append, All-cons, All-contains_itself, All-head, All-nil, All-tail, All-weaker, Contains-append_left, Contains-push}
use Rattle.std.proofs.lemmas.Option.{same_Some, slice_get-map}
use Rattle.dg_fold.specs.declared.part.Part.{Part}
use Rattle.dg_fold.specs.PathIndependence.{begun_at, enters_held}
use Rattle.dg_fold.specs.Steps.{PartedStep, names_record, paired}
use Rattle.dg_fold.specs.Trees.{IsStepOf, PathIn}
use Rattle.dg_fold.specs.Trees.PathIn.{Begins_at_root, Steps_on}
use Rattle.dg_history.specs.declared.node.NodeId.{NodeId}
use Rattle.dg_history.specs.declared.node.NodeId.TheVariants as node
use Rattle.dg_plan.specs.declared.edge.Edge.{Edge}
use Rattle.dg_plan.specs.declared.edge.Via.{Via}
use Rattle.dg_plan.specs.declared.edge.Via.TheVariants as via
use Rattle.dg_plan.specs.IndexGraph.{Ground, arc_of, arcs_of, edges_of, is_root}
use Rattle.dg_plan.specs.InstantPoint.{same_node}
use Rattle.dg_plan.specs.TreePaths.{base_behind, base_of_via, edges_at}
use Rattle.dg_plan.specs.Walks.{Arc, Grows}
use Rattle.dg_retrieval.specs.Beginnings.{BeginningStandsFor, base_handle, begun_behind, beginning_by, begun_within}
use Rattle.dg_retrieval.proofs.KeptGraphTrees.{each_edge}

-- ---- nodes

pub same_itself : (n : NodeId) → same_node n n ≡ true
same_itself node.Root = refl
same_itself node.Now = refl
same_itself node.Recent = refl
same_itself (node.Leaf j) = eq-eqb j j refl
same_itself (node.List i) = eq-eqb i i refl
same_itself (node.Inner h j) = and_from (h == h) (j == j) (eq-eqb h h refl) (eq-eqb j j refl)

pub same_is : (a b : NodeId) → same_node a b ≡ true → a ≡ b
same_is node.Root node.Root e = refl
same_is node.Now node.Now e = refl
same_is node.Recent node.Recent e = refl
same_is (node.Leaf i) (node.Leaf j) e = ap (λ n. node.Leaf n) (eqb-true i j e)
same_is (node.List i) (node.List j) e = ap (λ n. node.List n) (eqb-true i j e)
same_is (node.Inner h i) (node.Inner g j) e = let p = and_parts (h == g) (i == j) e in λ k. node.Inner (eqb-true h g p.0 k) (eqb-true i j p.1 k)
same_is a b e = absurd (false≢true e)

root_is : (n : NodeId) → is_root n ≡ true → n ≡ node.Root
root_is node.Root e = refl
root_is node.Now e = absurd (false≢true e)
root_is node.Recent e = absurd (false≢true e)
root_is (node.Leaf j) e = absurd (false≢true e)
root_is (node.List i) e = absurd (false≢true e)
root_is (node.Inner h j) e = absurd (false≢true e)

-- ---- edges

-- an edge that leads on by the current graph enters it
abbrev pub EntersNow : Edge → Type 0
EntersNow e = e.via ≡ via.Now → e.to ≡ node.Now

-- so does each edge of the graph of an index
pub edges_enter : (g : Ground) → All EntersNow (edges_of g)
edges_enter g = each_edge g EntersNow (record {
  now = λ there is. refl;
  base = λ b there is. absurd cc;
  top = λ h low within is. absurd cc;
  list = λ i within. ((λ is. absurd cc), ((λ is. absurd cc), ((λ is. absurd cc), ((λ is. absurd cc), tt))));
  child = λ h j c some few low high. ((λ is. absurd cc), ((λ is. absurd cc), tt));
  recent = λ there. ((λ is. absurd cc), ((λ is. absurd cc), ((λ is. absurd cc), ((λ is. absurd cc), tt))));
})

-- what holds of the edges holds of the edge of each of their steps
pub step_has : (P : Edge → Type 0) (walk : ListOf Edge) (parts : ListOf Part) → All P walk → (s : PartedStep) → IsStepOf s (paired walk parts) → P s.0
step_has P [] parts all s among = elim among [ ]
step_has P (e ∷ walk) parts all s among =
    let first : P e = all 0 e (omega arith) in
    let rest : (some : ListOf Part) → IsStepOf s (paired walk some) → P s.0 = λ some. step_has P walk some (λ i d within. all (suc i) d (omega arith)) s in
    by (names_record e.via) first rest among
  where
    one : (o : Option Part) (some : ListOf Part) → P e → ((some : ListOf Part) → IsStepOf s (paired walk some) → P s.0) → IsStepOf s ((e, o) ∷ paired walk some) → P s.0
    one o some first rest (inl is) = subst (λ (x : PartedStep). P x.0) (sym is) first
    one o some first rest (inr more) = rest some more

    by : (b : Bool) → P e → ((some : ListOf Part) → IsStepOf s (paired walk some) → P s.0)
        → IsStepOf s (if b then (e, slice_get parts 0) ∷ paired walk (drop 1 parts) else (e, None) ∷ paired walk parts) → P s.0
    by true first rest among = one (slice_get parts 0) (drop 1 parts) first rest among
    by false first rest among = one None parts first rest among

-- ---- edges that grow a tree

-- each edge leaves a node of the tree so far, and enters one that is not in it
abbrev pub EdgesGrow : ListOf NodeId → ListOf Edge → Type 0
EdgesGrow tree [] = Unit {0}
EdgesGrow tree (e ∷ walk) = Contains tree e.from × (Contains tree e.to → ⊥) × EdgesGrow (tree ++ e.to ∷ []) walk

-- so do the edges of the steps of a tree
pub edges_grow : (edges : ListOf Edge) (tree : ListOf NodeId) (steps : ListOf ℕ) → Grows (arcs_of edges) tree steps → EdgesGrow tree (edges_at edges steps)
edges_grow edges tree [] grows = tt
edges_grow edges tree (i ∷ steps) grows = by (λ e on. edges_grow edges (tree ++ e.to ∷ []) steps on) (slice_get edges i) refl
  where
    by : ((e : Edge) → Grows (arcs_of edges) (tree ++ e.to ∷ []) steps → EdgesGrow (tree ++ e.to ∷ []) (edges_at edges steps)) → (o : Option Edge) → slice_get edges i ≡ o → EdgesGrow tree (option_to_list o ++ edges_at edges steps)
    by rest None is = absurd (let none : None ≡ Some grows.0 = sym (slice_get-map arc_of edges i ∙ ap (option_map arc_of) is) ∙ grows.1 in cc)
    by rest (Some e) is =
        let same : arc_of e ≡ grows.0 = same_Some _ _ (sym (slice_get-map arc_of edges i ∙ ap (option_map arc_of) is) ∙ grows.1) in
        let to : e.to ≡ grows.0.to = ap (λ (x : Arc NodeId). x.to) same in (
          subst (Contains tree) (sym (ap (λ (x : Arc NodeId). x.from) same)) grows.2,
          (λ there. grows.3 (subst (Contains tree) to there)),
          rest e (subst (λ n. Grows (arcs_of edges) (tree ++ n ∷ []) steps) (sym to) grows.4),
        )

-- none of them enters a node of the tree
none_enters : (tree : ListOf NodeId) (walk : ListOf Edge) → EdgesGrow tree walk → (n : NodeId) → Contains tree n → All (λ (e : Edge). e.to ≢ n) walk
none_enters tree [] grow n there = All-nil (λ (e : Edge). e.to ≢ n)
none_enters tree (e ∷ walk) grow n there =
    All-cons (λ (x : Edge). x.to ≢ n) e walk (λ is. grow.1 (subst (Contains tree) (sym is) there))
    (none_enters (tree ++ e.to ∷ []) walk grow.2 n (Contains-append_left tree (e.to ∷ []) n there))

-- the tree in front of an edge
abbrev GrowFrom : ListOf Edge → Type 0
GrowFrom walk = (tree : ListOf NodeId) × EdgesGrow tree walk

grow_behind : (tree : ListOf NodeId) (before walk : ListOf Edge) → EdgesGrow tree (before ++ walk) → GrowFrom walk
grow_behind tree [] walk grow = (tree, grow)
grow_behind tree (e ∷ before) walk grow = grow_behind (tree ++ e.to ∷ []) before walk grow.2

-- ---- what is behind an edge

pub all_back : (P : Edge → Type 0) (walk : ListOf Edge) → All P walk → All P (reverse walk)
all_back P [] all = all
all_back P (e ∷ walk) all =
    subst (λ (es : ListOf Edge). All P es) (sym (reverse-append (e ∷ []) walk))
    (All-append P (reverse walk) (e ∷ []) (all_back P walk (All-tail P e walk all)) (All-cons P e [] (All-head P e walk all) (All-nil P)))

-- edges that do not enter a node say nothing of its path
passed_by : (walk before : ListOf Edge) (n : NodeId) → All (λ (e : Edge). e.to ≢ n) walk → begun_behind (walk ++ before) n ≡ begun_behind before n
passed_by [] before n all = refl
passed_by (e ∷ walk) before n all =
    by (same_node n e.to) (λ same. All-head (λ (x : Edge). x.to ≢ n) e walk all (sym (same_is n e.to same)))
    (passed_by walk before n (All-tail (λ (x : Edge). x.to ≢ n) e walk all))
  where
    by : (b : Bool) → (b ≡ true → ⊥) → begun_behind (walk ++ before) n ≡ begun_behind before n
        → (if b then (if is_root e.from then beginning_by e.via else begun_behind (walk ++ before) e.from) else begun_behind (walk ++ before) n) ≡ begun_behind before n
    by true other rest = absurd (other refl)
    by false other rest = rest

-- what stands in front of an element of a list, and behind it
abbrev IsCut : ListOf Edge → Edge → Type 0
IsCut walk e = (before : ListOf Edge) × (behind : ListOf Edge) × (walk ≡ before ++ e ∷ behind)

cut_at : (walk : ListOf Edge) (e : Edge) → Contains walk e → IsCut walk e
cut_at walk e there = (
  take there.0 walk,
  drop (there.0 + 1) walk,
  sym (take-append-drop there.0 walk) ∙ ap (λ (es : ListOf Edge). take there.0 walk ++ es) (drop_more walk there.0 e there.1 ∙ ap (λ (x : Edge). x ∷ drop (there.0 + 1) walk) there.2),
)

-- The path to the node that an edge enters begins with the edge, where that leaves the root, and else as the path to the
-- node that it leaves.
entered_by_one : (walk : ListOf Edge) (tree : ListOf NodeId) → EdgesGrow tree walk → (e : Edge) → IsCut walk e
    → begun_within walk e.to ≡ (if is_root e.from then beginning_by e.via else begun_within walk e.from)
entered_by_one walk tree grow e cut =
    let before : ListOf Edge = cut.0 in
    let behind : ListOf Edge = cut.1 in
    let from = grow_behind tree before (e ∷ behind) (subst (EdgesGrow tree) cut.2 grow) in
    let back : reverse walk ≡ reverse behind ++ (e ∷ reverse before) =
    ap reverse cut.2 ∙ reverse-append before (e ∷ behind) ∙ ap (λ (es : ListOf Edge). es ++ reverse before) (reverse-append (e ∷ []) behind)
    ∙ append_assoc (reverse behind) (e ∷ []) (reverse before) in
    let of_head : begun_within walk e.to ≡ begun_behind (e ∷ reverse before) e.to =
    ap (λ (es : ListOf Edge). begun_behind es e.to) back
    ∙ passed_by (reverse behind) (e ∷ reverse before) e.to
    (all_back (λ (x : Edge). x.to ≢ e.to) behind (none_enters (from.0 ++ e.to ∷ []) behind from.1.2 e.to (Contains-push from.0 e.to))) in
    let of_tail : begun_within walk e.from ≡ begun_behind (reverse before) e.from =
    ap (λ (es : ListOf Edge). begun_behind es e.from) back
    ∙ passed_by (reverse behind) (e ∷ reverse before) e.from
    (all_back (λ (x : Edge). x.to ≢ e.from) behind (none_enters (from.0 ++ e.to ∷ []) behind from.1.2 e.from (Contains-append_left from.0 (e.to ∷ []) e.from from.1.0)))
    ∙ passed_by (e ∷ []) (reverse before) e.from (All-cons (λ (x : Edge). x.to ≢ e.from) e [] (λ is. from.1.1 (subst (Contains from.0) (sym is) from.1.0)) (All-nil (λ (x : Edge). x.to ≢ e.from))) in
    of_head
    ∙ ap (λ b. if b then (if is_root e.from then beginning_by e.via else begun_behind (reverse before) e.from) else begun_behind (reverse before) e.to) (same_itself e.to)
    ∙ ap (λ x. if is_root e.from then beginning_by e.via else x) (sym of_tail)

-- no edge of a tree from the root enters it
root_alone : (walk : ListOf Edge) → EdgesGrow (node.Root ∷ []) walk → All (λ (e : Edge). e.to ≢ node.Root) walk
root_alone walk grow = none_enters (node.Root ∷ []) walk grow node.Root (0, omega arith, refl)

-- ---- the paths of a tree

-- a path to the root has no step
no_way : (walk : ListOf Edge) (parts : ListOf Part) → EdgesGrow (node.Root ∷ []) walk → (v : NodeId) (path : ListOf PartedStep) → PathIn (paired walk parts) v path → v ≡ node.Root → path ≡ []
no_way walk parts grow v path Begins_at_root root = refl
no_way walk parts grow v path (Steps_on s before among way) root = absurd (step_has (λ (e : Edge). e.to ≢ node.Root) walk parts (root_alone walk grow) s among root)

-- the first edge of a path stands for the node with whose set the path begins
first_stands : (edges : ListOf Edge) (e : Edge) → Contains edges e → EntersNow e → BeginningStandsFor edges (begun_at node.Root (e ∷ [])) (beginning_by e.via)
first_stands edges e there now = by e.via refl
  where
    by : (v : Via) → e.via ≡ v → BeginningStandsFor edges (if enters_held v then e.to else node.Root) (beginning_by v)
    by via.Now is = now is
    by (via.Base handle) is = (e, there, is, refl)
    by (via.Paid key way) is = refl
    by (via.Held key way) is = refl
    by (via.Recent way) is = refl

module _ (edges walk : ListOf Edge) (parts : ListOf Part) (grow : EdgesGrow (node.Root ∷ []) walk) (among : All (Contains edges) walk) (enter : All EntersNow walk) where
  -- what a path begins with is what is found behind its node
  pub path_stands : (v : NodeId) (path : ListOf PartedStep) → PathIn (paired walk parts) v path → BeginningStandsFor edges (begun_at node.Root (map (λ (s : PartedStep). s.0) path)) (begun_within walk v)
  path_stands v path Begins_at_root =
      subst (BeginningStandsFor edges node.Root)
      (sym (ap (λ (es : ListOf Edge). begun_behind es node.Root) (sym (append-nil (reverse walk)))
      ∙ passed_by (reverse walk) [] node.Root (all_back (λ (e : Edge). e.to ≢ node.Root) walk (root_alone walk grow)))) refl
  path_stands v path (Steps_on s before step way) =
      subst (BeginningStandsFor edges (begun_at node.Root (map (λ (x : PartedStep). x.0) (before ++ s ∷ [])))) (sym (entered_by_one walk (node.Root ∷ []) grow s.0 cut))
      (by (is_root s.0.from) refl (path_stands s.0.from before way))
    where
      cut : IsCut walk s.0
      cut = step_has (IsCut walk) walk parts (All-weaker (Contains walk) (IsCut walk) (λ e there. cut_at walk e there) walk (All-contains_itself walk)) s step

      first : BeginningStandsFor edges (begun_at node.Root (s.0 ∷ [])) (beginning_by s.0.via)
      first = first_stands edges s.0 (step_has (Contains edges) walk parts among s step) (step_has EntersNow walk parts enter s step)

      on : (before : ListOf PartedStep) → PathIn (paired walk parts) s.0.from before → is_root s.0.from ≡ false
          → BeginningStandsFor edges (begun_at node.Root (map (λ (x : PartedStep). x.0) before)) (begun_within walk s.0.from)
          → BeginningStandsFor edges (begun_at node.Root (map (λ (x : PartedStep). x.0) (before ++ s ∷ []))) (begun_within walk s.0.from)
      on [] way other stands = absurd (false≢true (sym other ∙ ap is_root (ends_at s.0.from [] way refl)))
        where
          ends_at : (n : NodeId) (path : ListOf PartedStep) → PathIn (paired walk parts) n path → length path ≡ 0 → n ≡ node.Root
          ends_at n path Begins_at_root none = refl
          ends_at n path (Steps_on t front in' more) none = absurd (let many = length-append front (t ∷ []) in omega arith)
      on (x ∷ before) way other stands = stands

      by : (b : Bool) → is_root s.0.from ≡ b → BeginningStandsFor edges (begun_at node.Root (map (λ (x : PartedStep). x.0) before)) (begun_within walk s.0.from)
          → BeginningStandsFor edges (begun_at node.Root (map (λ (x : PartedStep). x.0) (before ++ s ∷ []))) (if b then beginning_by s.0.via else begun_within walk s.0.from)
      by true root stands =
          let none : before ≡ [] = no_way walk parts grow s.0.from before way (root_is s.0.from root) in
          subst (λ (steps : ListOf PartedStep). BeginningStandsFor edges (begun_at node.Root (map (λ (x : PartedStep). x.0) (steps ++ s ∷ []))) (beginning_by s.0.via)) (sym none) first
      by false other stands = on before way other stands

-- ---- the bases that are found

base_by : (v : Via) → base_handle (beginning_by v) ≡ base_of_via v
base_by via.Now = refl
base_by (via.Base handle) = refl
base_by (via.Paid key way) = refl
base_by (via.Held key way) = refl
base_by (via.Recent way) = refl

-- the base that is found is that behind the node
pub base_found : (back : ListOf Edge) (n : NodeId) → base_handle (begun_behind back n) ≡ base_behind back n
base_found [] n = refl
base_found (e ∷ back) n = by (same_node n e.to) (is_root e.from) (base_found back e.from) (base_found back n)
  where
    by : (b c : Bool) → base_handle (begun_behind back e.from) ≡ base_behind back e.from → base_handle (begun_behind back n) ≡ base_behind back n
        → base_handle (if b then (if c then beginning_by e.via else begun_behind back e.from) else begun_behind back n) ≡ (if b then (if c then base_of_via e.via else base_behind back e.from) else base_behind back n)
    by true true from at = base_by e.via
    by true false from at = from
    by false c from at = at

-- it is that of one of the edges
pub base_offered : (edges back : ListOf Edge) → All (Contains edges) back → (n : NodeId) (handle : ℕ) → base_handle (begun_behind back n) ≡ Some handle → (e : Edge) × Contains edges e × (e.via ≡ via.Base handle)
base_offered edges [] all n handle found = absurd (let none : None ≡ Some handle = found in cc)
base_offered edges (e ∷ back) all n handle found =
    by (same_node n e.to) (is_root e.from) (base_offered edges back (All-tail (Contains edges) e back all) e.from handle) (base_offered edges back (All-tail (Contains edges) e back all) n handle) found
  where
    here : (v : Via) → e.via ≡ v → base_handle (beginning_by v) ≡ Some handle → (f : Edge) × Contains edges f × (f.via ≡ via.Base handle)
    here via.Now is found = absurd (let none : None ≡ Some handle = found in cc)
    here (via.Base other) is found = (e, All-head (Contains edges) e back all, is ∙ ap (λ h. via.Base h) (same_Some _ _ found))
    here (via.Paid key way) is found = absurd (let none : None ≡ Some handle = found in cc)
    here (via.Held key way) is found = absurd (let none : None ≡ Some handle = found in cc)
    here (via.Recent way) is found = absurd (let none : None ≡ Some handle = found in cc)

    by : (b c : Bool) → (base_handle (begun_behind back e.from) ≡ Some handle → (f : Edge) × Contains edges f × (f.via ≡ via.Base handle))
        → (base_handle (begun_behind back n) ≡ Some handle → (f : Edge) × Contains edges f × (f.via ≡ via.Base handle))
        → base_handle (if b then (if c then beginning_by e.via else begun_behind back e.from) else begun_behind back n) ≡ Some handle → (f : Edge) × Contains edges f × (f.via ≡ via.Base handle)
    by true true from at found = here e.via refl found
    by true false from at found = from found
    by false c from at found = at found
