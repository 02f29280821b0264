-- Each node of the graph of an index is reached, whatever the records weigh.
use Rattle.std.proofs.Common.{◌≡◌, ℕ, zero, suc, ◌+◌, ◌-◌, ◌*◌, Bool, true, false, cond, List as ListOf, [], ◌∷◌, ◌++◌, map, Some, refl, sym, ap, subst, ◌∙◌, arith}
use Rattle.std.specs.Prelude.{not, slice_get}
use Rattle.std.specs.List.{flat_map}
use Rattle.std.proofs.lemmas.List.{map-append}
use Rattle.std.proofs.lemmas.List.Elements.{All-weaker}
use Rattle.std.proofs.lemmas.Option.{none-some, same_Some}
use Rattle.dg_history.specs.declared.node.NodeId.{NodeId}
use Rattle.dg_history.specs.declared.node.NodeId.TheVariants.{Root, Now}
use Rattle.dg_history.specs.declared.node.Key.{Key}
use Rattle.dg_index.specs.Hierarchy.{numbers}
use Rattle.dg_index.specs.IndexRecords.{heights}
use Rattle.dg_plan.specs.declared.edge.Edge.{Edge}
use Rattle.dg_plan.specs.declared.edge.Via.TheVariants as via
use Rattle.dg_plan.specs.IndexGraph.{Ground, arcs_of, base_edge, child_edges, edge, edges_of, first_edges, inner_edges, inners_at, is_root, kept, level_edges, list_edges, nodes_of, recent_edges, top_edge}
use Rattle.dg_plan.specs.Walks.{Arc, Leads}
use Rattle.dg_plan.proofs.IndexGraphNumbers.{above_exponent}
use Rattle.dg_planner.specs.PlanLaws.{NodesAreReached}
use Rattle.dg_planner.proofs.OrderEnds.{IsNear, all_reached}

-- the edge at no weight
abbrev bare : Edge → Edge
bare e = edge e.from e.to 0 e.via

bare_kept : (edges : ListOf Edge) → map bare (kept edges) ≡ kept (map bare edges)
bare_kept [] = refl
bare_kept (e ∷ edges) = by (is_root e.to) (bare_kept edges)
  where
    by : (b : Bool) → map bare (kept edges) ≡ kept (map bare edges) → map bare (cond (not b) (e ∷ kept edges) (kept edges)) ≡ cond (not b) (bare e ∷ kept (map bare edges)) (kept (map bare edges))
    by true rest = rest
    by false rest = ap (λ es. bare e ∷ es) rest

bare_map : {X : Type 0} (f h : X → Edge) → ((x : X) → bare (f x) ≡ h x) → (xs : ListOf X) → map bare (map f xs) ≡ map h xs
bare_map f h same [] = refl
bare_map f h same (x ∷ xs) = λ i. same x i ∷ bare_map f h same xs i

bare_flat : {X : Type 0} (f h : X → ListOf Edge) → ((x : X) → map bare (f x) ≡ h x) → (xs : ListOf X) → map bare (flat_map f xs) ≡ flat_map h xs
bare_flat f h same [] = refl
bare_flat f h same (x ∷ xs) = map-append bare (f x) (flat_map f xs) ∙ (λ i. same x i ++ bare_flat f h same xs i)

bare_cond : (b : Bool) (edges : ListOf Edge) → map bare (cond b edges []) ≡ cond b (map bare edges) []
bare_cond true edges = refl
bare_cond false edges = refl

-- the edges of a graph at no weight are those of the graph whose records weigh nothing
bare_edges : (g : Ground) → map bare (edges_of g) ≡ edges_of (record g { weight = λ k. 0 })
bare_edges g =
    let w : Key → ℕ = λ k. 0 in
    let now : ListOf Edge = cond g.memory (edge Root Now 0 via.Now ∷ []) [] in
    let tops = map (top_edge g.weight) (heights g.arity g.leaves) in
    let lists = flat_map (list_edges g.weight) (numbers 0 g.leaves) in
    let levels = flat_map (level_edges g.weight g.leaves g.arity) (heights g.arity g.leaves) in
    let recent = cond g.memory (recent_edges g.leaves) [] in
    let first : map bare (first_edges g) ≡ first_edges (record g { weight = λ k. 0 }) =
    map-append bare now (map base_edge g.bases ++ tops)
    ∙ (λ i. bare_cond g.memory (edge Root Now 0 via.Now ∷ []) i
    ++ (map-append bare (map base_edge g.bases) tops
    ∙ (λ j. bare_map base_edge base_edge (λ b. refl) g.bases j ++ bare_map (top_edge g.weight) (top_edge w) (λ h. refl) (heights g.arity g.leaves) j)) i) in
    let level : (h : ℕ) → map bare (level_edges g.weight g.leaves g.arity h) ≡ level_edges w g.leaves g.arity h =
    λ h. bare_flat (inner_edges g.weight g.arity (h - 1)) (inner_edges w g.arity (h - 1))
    (λ j. bare_flat (child_edges g.weight (h - 1) j) (child_edges w (h - 1) j) (λ c. refl) (numbers ((j - 1) * g.arity + 1) g.arity))
    (numbers 1 (inners_at g.leaves g.arity h)) in
    bare_kept (first_edges g ++ (lists ++ (levels ++ recent)))
    ∙ ap kept (map-append bare (first_edges g) (lists ++ (levels ++ recent))
    ∙ (λ i. first i ++ (map-append bare lists (levels ++ recent)
    ∙ (λ j. bare_flat (list_edges g.weight) (list_edges w) (λ n. refl) (numbers 0 g.leaves) j ++ (map-append bare levels recent
    ∙ (λ k. bare_flat (level_edges g.weight g.leaves g.arity) (level_edges w g.leaves g.arity) level (heights g.arity g.leaves) k ++ bare_cond g.memory (recent_edges g.leaves) k)) j)) i))

arc_at : (edges : ListOf Edge) (i : ℕ) (a : Arc NodeId) → slice_get (arcs_of (map bare edges)) i ≡ Some a → (e : Arc NodeId) × (slice_get (arcs_of edges) i ≡ Some e) × (e.from ≡ a.from) × (e.to ≡ a.to)
arc_at [] i a is = absurd (none-some a is)
arc_at (e ∷ edges) zero a is = (record { from = e.from; to = e.to; weight = e.weight }, refl, ap (λ (x : Arc NodeId). x.from) (same_Some _ _ is), ap (λ (x : Arc NodeId). x.to) (same_Some _ _ is))
arc_at (e ∷ edges) (suc i) a is = arc_at edges i a is

-- a walk is one at any weights
walk_at_weights : (edges : ListOf Edge) (a : NodeId) (steps : ListOf ℕ) (b : NodeId) → Leads (arcs_of (map bare edges)) a steps b → Leads (arcs_of edges) a steps b
walk_at_weights edges a [] b leads = leads
walk_at_weights edges a (i ∷ steps) b leads =
    let e = arc_at edges i leads.0 leads.1 in
    (e.0, e.1, e.2 ∙ leads.2, subst (λ v. Leads (arcs_of edges) v steps b) (sym e.3) (walk_at_weights edges leads.0.to steps b leads.3))

pub nodes_are_reached : NodesAreReached
nodes_are_reached g low bases =
    let h : Ground = record g { weight = λ k. 0 } in
    All-weaker (IsNear h low bases g.leaves 0) (λ node. (steps : ListOf ℕ) × Leads (arcs_of (edges_of g)) Root steps node)
    (λ node near. (near.steps, walk_at_weights (edges_of g) Root near.steps node (subst (λ es. Leads (arcs_of es) Root near.steps node) (sym (bare_edges g)) near.walk)))
    (nodes_of g) (all_reached h low bases g.leaves 0 (λ n within. (let a = above_exponent g.arity n low in omega arith)) (λ k. omega arith))
