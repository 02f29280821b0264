-- What is shown of a graph by the indices of its nodes holds of the graph by its nodes.
use Rattle.std.proofs.Common.{◌≡◌, ℕ, ◌≤◌, ◌<◌, suc, zero, List as ListOf, [], ◌∷◌, Some, Result, Ok, Err, refl, sym, ap, subst, ◌∙◌, arith}
use Rattle.std.specs.Prelude.{slice_get, slice_index, slice_index_or, length, IfOk}
use Rattle.std.specs.List.{All, AllZip, Contains}
use Rattle.std.proofs.lemmas.List.{length-map}
use Rattle.std.proofs.lemmas.List.Elements.{All-contains, All-nil, All-weaker}
use Rattle.std.proofs.lemmas.Option.{none-some, same_Some, slice_get_within, slice_get-get_or, get_or_from_slice_get}
use Rattle.dg_history.specs.declared.node.NodeId.{NodeId}
use Rattle.dg_history.specs.declared.node.NodeId.TheVariants.{Root}
use Rattle.dg_plan.specs.declared.edge.Edge.{Edge}
use Rattle.dg_plan.specs.Walks.{AllHaveLeast, Arc, Cost, IsBest, IsLeast, IsPlan, IsPotential, Leads, renamed_arc, weight_of}
use Rattle.dg_plan.proofs.WalkNames.{cost_renamed, least_named, plan_named, walk_renamed}
use Rattle.dg_plan.specs.IndexGraph.{Ground, nodes_of, arc_of, arcs_of}
use Rattle.dg_path.specs.declared.adjacency.Adjacency.{Adjacency}
use Rattle.dg_path.specs.declared.search.Link.{Link}
use Rattle.dg_path.specs.declared.search.Cost.{Cost as Label}
use Rattle.dg_path.specs.Search.{IsTarget, arc, arcs, cost_at}
use Rattle.dg_path.proofs.SearchTables.{least_at, weight_is as table_weight}
use Rattle.dg_planner.specs.Order.{IsGraphNode, bare_ground, node_index_of}
use Rattle.dg_planner.specs.Whole.{FARTHEST, IsBetween, IsWhole}
use Rattle.dg_planner.proofs.OrderPlaces.{apart_indices, stands}
use Rattle.dg_planner.proofs.OrderEnds.{nodes_are}

-- what holds of a result's value, where the result has one
pub ok_more : {T E : Type 0} (P Q : T → Type 0) (r : Result T E) → IfOk r P → ((x : T) → P x → Q x) → IfOk r Q
ok_more P Q (Ok x) h more = more x h
ok_more P Q (Err e) h more = h

pub ok_both : {T E : Type 0} (P Q : T → Type 0) (r : Result T E) → IfOk r P → IfOk r Q → IfOk r (λ x. P x × Q x)
ok_both P Q (Ok x) p q = (p, q)
ok_both P Q (Err e) p q = p

pub zip_from : {A B : Type 0} (R : A → B → Type 0) (xs : ListOf A) (ys : ListOf B) → length ys ≡ length xs
    → ((k : ℕ) (x : A) (y : B) → slice_get xs k ≡ Some x → slice_get ys k ≡ Some y → R x y) → AllZip R xs ys
zip_from R [] [] len each = tt
zip_from R [] (y ∷ ys) len each = absurd (omega arith)
zip_from R (x ∷ xs) [] len each = absurd (omega arith)
zip_from R (x ∷ xs) (y ∷ ys) len each = (each 0 x y refl refl, zip_from R xs ys (omega arith) (λ k. each (suc k)))

pub edge_of : (edges : ListOf Edge) (i : ℕ) (a : Arc NodeId) → slice_get (arcs_of edges) i ≡ Some a → (e : Edge) × (slice_get edges i ≡ Some e) × (arc_of e ≡ a)
edge_of [] i a is = absurd (none-some a is)
edge_of (e ∷ edges) zero a is = (e, refl, same_Some _ _ is)
edge_of (e ∷ edges) (suc i) a is = edge_of edges i a is

-- a walk begins where its first edge does
pub first_from : (edges : ListOf Edge) (steps : ListOf ℕ) (step : ℕ) (a target : NodeId) (d : Edge) → Some step ≡ slice_get steps 0 → Leads (arcs_of edges) a steps target → (slice_index_or edges step d).from ≡ a
first_from edges [] step a target d is leads = absurd (none-some step (sym is))
first_from edges (i ∷ steps) step a target d is leads =
    let e = edge_of edges i leads.0 leads.1 in
    ap (λ k. (slice_index_or edges k d).from) (same_Some step i is)
    ∙ (ap (λ (x : Edge). x.from) (get_or_from_slice_get edges i e.0 d e.1) ∙ (ap (λ (x : Arc NodeId). x.from) e.2 ∙ leads.2))

-- the steps of a plan are numbers of edges
pub plan_within : (edges : ListOf Edge) (starts : ListOf NodeId) (v : NodeId) (steps : ListOf ℕ) → IsPlan (arcs_of edges) starts v steps → All (λ i. i < length edges) steps
plan_within edges starts v steps p =
    All-weaker (IsBest (arcs_of edges) starts) (λ i. i < length edges) (λ i b. (let e = edge_of edges i b.attains.edge b.attains.there in slice_get_within edges i e.0 e.1)) steps p.best

-- a node is one of its form
pub node_is : (g : Ground) → 2 ≤ g.arity → (v : NodeId) → Contains (nodes_of g) v → IsGraphNode g.leaves g.arity v
node_is g low v c = All-contains (IsGraphNode g.leaves g.arity) (nodes_of g) v (nodes_are (bare_ground g.leaves g.arity g.memory) low (All-nil _)) c

-- its index is below the number of nodes
pub node_index_within : (g : Ground) (v : NodeId) → Contains (nodes_of g) v → node_index_of g v < length (nodes_of g)
node_index_within g v c = let s = stands g c.0 v (slice_get-get_or (nodes_of g) c.0 v c.1 ∙ ap (λ z. Some z) c.2) in let h = c.1 in omega arith

root_in : (g : Ground) (a : NodeId) → Contains (Root ∷ []) a → Contains (nodes_of g) a
root_in g a c = subst (Contains (nodes_of g)) (only c.0 c.1 c.2) (0, omega arith, refl)
  where
    only : (k : ℕ) → k < 1 → slice_index_or (Root ∷ []) k a ≡ a → Root ≡ a
    only zero h e = e
    only (suc k) h e = absurd (omega arith)

module _ (g : Ground) (edges : ListOf Edge) (starts : ListOf ℕ) (links : ListOf Link) (outs ins : Adjacency) (costs : ListOf Label) (whole : IsWhole g edges starts links outs ins costs) where
  -- both ends of each arc are nodes
  pub inside : (i : ℕ) (a : Arc NodeId) → slice_get (arcs_of edges) i ≡ Some a → Contains (nodes_of g) a.from × Contains (nodes_of g) a.to
  inside i a is =
      let e = edge_of edges i a is in
      let ends = subst (IsBetween (nodes_of g)) (get_or_from_slice_get edges i e.0 e.0 e.1) (whole.ends i e.0 (slice_get_within edges i e.0 e.1)) in
      subst (λ (x : Arc NodeId). Contains (nodes_of g) x.from × Contains (nodes_of g) x.to) e.2 ends

  -- each node has a cost
  pub is_target : (v : NodeId) → Contains (nodes_of g) v → IsTarget costs (node_index_of g v)
  is_target v vn =
      let within : node_index_of g v < length costs = (let p = node_index_within g v vn in let n = whole.count in omega arith) in
      record { within = within; near = (let n = whole.near (node_index_of g v) within in omega arith) }

  -- and a least cost
  has_least : (v : NodeId) → Contains (nodes_of g) v → (c : Cost) × IsLeast (arcs_of edges) (Root ∷ []) v c
  has_least v vn =
      let at = is_target v vn in (
        cost_at costs (node_index_of g v),
        least_named (node_index_of g) (arcs_of edges) (nodes_of g) (apart_indices g) inside (Root ∷ []) (root_in g) v (cost_at costs (node_index_of g v)) vn
            (subst (λ a. IsLeast a (0 ∷ []) (node_index_of g v) (cost_at costs (node_index_of g v))) whole.named (least_at links costs (0 ∷ []) whole.table (node_index_of g v) at.near)),
      )

  pub all_have_least : AllHaveLeast (arcs_of edges) (Root ∷ [])
  all_have_least i e there = let both = inside i e there in (has_least e.from both.0, has_least e.to both.1)

  -- the plan by indices is the plan
  pub plan_is : (v : NodeId) (steps : ListOf ℕ) → Contains (nodes_of g) v → IsPlan (arcs links) (0 ∷ []) (node_index_of g v) steps → IsPlan (arcs_of edges) (Root ∷ []) v steps
  plan_is v steps vn p =
      plan_named (node_index_of g) (arcs_of edges) (nodes_of g) (apart_indices g) inside (Root ∷ []) (root_in g) v steps vn
      (subst (λ h. IsPlan h (0 ∷ []) (node_index_of g v) steps) whole.named p)

  -- and no plan weighs more than the farthest node
  pub plan_is_near : (v : NodeId) (steps : ListOf ℕ) (weight : ℕ) → Contains (nodes_of g) v → IsPlan (arcs links) (0 ∷ []) (node_index_of g v) steps → weight ≡ weight_of (arcs links) steps → weight ≤ FARTHEST
  plan_is_near v steps weight vn plan is =
      let at = is_target v vn in
      let same = table_weight links costs (0 ∷ []) whole.table (node_index_of g v) at.near steps plan in
      let near = whole.near (node_index_of g v) at.within in
      omega arith

  -- a walk weighs the same by indices
  pub weight_is : (a : NodeId) (steps : ListOf ℕ) (v : NodeId) → Leads (arcs_of edges) a steps v → weight_of (arcs links) steps ≡ weight_of (arcs_of edges) steps
  weight_is a steps v leads = ap (λ h. weight_of h steps) whole.named ∙ ap (λ (c : Cost). c.0) (cost_renamed (node_index_of g) (arcs_of edges) a steps v leads)

  pub walk_by_indices : (steps : ListOf ℕ) (v : NodeId) → Leads (arcs_of edges) Root steps v → Leads (arcs links) 0 steps (node_index_of g v)
  walk_by_indices steps v leads = subst (λ h. Leads h 0 steps (node_index_of g v)) (sym whole.named) (walk_renamed (node_index_of g) (arcs_of edges) Root steps v leads)

  -- and so is a potential
  pub potential_is : (weight : ℕ) (v : NodeId) (p : ℕ) → Contains (nodes_of g) v → IsPotential (arcs links) (0 ∷ []) weight (node_index_of g v) p → IsPotential (arcs_of edges) (Root ∷ []) weight v p
  potential_is weight v p vn h = (
    h.0,
    least_named (node_index_of g) (arcs_of edges) (nodes_of g) (apart_indices g) inside (Root ∷ []) (root_in g) v h.0 vn
        (subst (λ a. IsLeast a (0 ∷ []) (node_index_of g v) h.0) whole.named h.1),
    h.2,
  )

  pub potentials_are : (weight : ℕ) (potentials : ListOf ℕ) → length potentials ≡ length costs
      → ((v : ℕ) → IsTarget costs v → IsPotential (arcs links) (0 ∷ []) weight v (slice_index potentials v))
      → AllZip (IsPotential (arcs_of edges) (Root ∷ []) weight) (nodes_of g) potentials
  potentials_are weight potentials len are =
      zip_from (IsPotential (arcs_of edges) (Root ∷ []) weight) (nodes_of g) potentials (len ∙ whole.count) (λ k v p there is.
      let within = slice_get_within (nodes_of g) k v there in
      let node_index : node_index_of g v ≡ k = stands g k v there ∙ omega arith in
      let vn : Contains (nodes_of g) v = (k, within, get_or_from_slice_get (nodes_of g) k v v there) in
      let this : slice_index potentials (node_index_of g v) ≡ p = ap (slice_index potentials) node_index ∙ get_or_from_slice_get potentials k p 0 is in
      subst (IsPotential (arcs_of edges) (Root ∷ []) weight v) this (potential_is weight v (slice_index potentials (node_index_of g v)) vn (are (node_index_of g v) (is_target v vn))))

  -- there are as many links as edges
  pub link_count : length links ≡ length edges
  link_count = sym (length-map links arc) ∙ (ap length whole.named ∙ (length-map (arcs_of edges) (renamed_arc (node_index_of g)) ∙ length-map edges arc_of))
