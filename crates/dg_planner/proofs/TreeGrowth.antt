-- A tree as it grows, target by target.
use Rattle.std.proofs.Common.{◌≡◌, ℕ, ◌+◌, ◌*◌, ◌≤◌, ◌<◌, List as ListOf, [], ◌∷◌, ◌++◌, Option, None, Some, length, map, refl, sym, ap, subst, ◌∙◌, arith}
use Rattle.std.specs.Prelude.{slice_get}
use Rattle.std.specs.Option.{option_map, option_to_list}
use Rattle.std.specs.List.{All, AllZip, Contains, sum}
use Rattle.std.proofs.lemmas.List.{length_push, map-append}
use Rattle.std.proofs.lemmas.List.Elements.{All-append, All-contains, All-from_recursion, All-nil}
use Rattle.std.proofs.lemmas.List.Sums.{sum_by_push}
use Rattle.std.proofs.lemmas.Option.{slice_get-map}
use Rattle.dg_history.specs.declared.node.NodeId.{NodeId}
use Rattle.dg_history.specs.declared.node.NodeId.TheVariants.{Root}
use Rattle.dg_plan.specs.declared.edge.Edge.{Edge}
use Rattle.dg_plan.specs.IndexGraph.{Ground, arcs_of, nodes_of}
use Rattle.dg_plan.specs.Walks.{Arc, AreSingles, Graft, IsPlan, IsTree, Leads, entered, renamed, renamed_arc, steps_of, tree_weight, weight_of}
use Rattle.dg_plan.proofs.WalkNames.{plan_named}
use Rattle.dg_plan.proofs.WalkTrees.{nodes_more, tree_push}
use Rattle.dg_path.specs.declared.adjacency.Adjacency.{Adjacency}
use Rattle.dg_path.specs.declared.search.Link.{Link}
use Rattle.dg_path.specs.declared.search.Cost.{Cost as Label}
use Rattle.dg_path.specs.Search.{Falls, CostsFit, IsTable, arcs, label_at}
use Rattle.dg_path.proofs.SearchTables as tables
use Rattle.dg_planner.specs.Order.{node_index_of}
use Rattle.dg_planner.specs.Whole.{FARTHEST, IsWhole}
use Rattle.dg_planner.proofs.OrderPlaces.{apart_indices}
use Rattle.dg_planner.proofs.OrderPlans.{inside, is_target, node_index_within, plan_is, weight_is}
use Rattle.dg_planner.proofs.SearchPlans.{has_plan}

-- the sum of the singles with one more
pub sum_push : (xs : ListOf ℕ) (x : ℕ) → sum (xs ++ x ∷ []) ≡ sum xs + x
sum_push xs x = sum_by_push (λ n. n) xs x

-- what is shown of the grafts and the weight of the targets so far
pub record IsGrown (edges : ListOf Edge) (targets : ListOf NodeId) (grafts : ListOf (Graft NodeId)) (weight : ℕ) : Type 0 where
  pub tree : IsTree (arcs_of edges) (Root ∷ []) targets grafts
  pub weight_is : weight ≡ tree_weight (arcs_of edges) grafts
  pub light : weight ≤ length targets * FARTHEST

-- what is shown of the weights of the single plans of the targets so far
pub record AreWeighed (edges : ListOf Edge) (targets : ListOf NodeId) (singles : ListOf ℕ) : Type 0 where
  pub are : AreSingles (arcs_of edges) (Root ∷ []) targets singles
  pub light : sum singles ≤ length targets * FARTHEST

-- what is shown of the costs from the tree of these grafts, where a further target is planned by them
pub record IsReady (g : Ground) (edges : ListOf Edge) (links : ListOf Link) (grafts : ListOf (Graft NodeId)) (costs : ListOf Label) : Type 0 where
  pub count : length costs ≡ length (nodes_of g)
  pub fits : CostsFit costs
  pub table : IsTable (arcs links) (map (node_index_of g) ((Root ∷ []) ++ entered (arcs_of edges) (steps_of grafts))) costs
  pub near : (v : ℕ) → v < length costs → (label_at costs v).weight ≤ FARTHEST

-- before the first target
pub none_grown : (edges : ListOf Edge) → IsGrown edges [] [] 0
none_grown edges = record { tree = tt; weight_is = refl; light = omega arith }

pub none_weighed : (edges : ListOf Edge) → AreWeighed edges [] []
none_weighed edges = record { are = tt; light = omega arith }

zip_push : {A B : Type 0} (R : A → B → Type 0) (xs : ListOf A) (ys : ListOf B) (x : A) (y : B) → AllZip R xs ys → R x y → AllZip R (xs ++ x ∷ []) (ys ++ y ∷ [])
zip_push R [] [] x y all last = (last, tt)
zip_push R [] (b ∷ ys) x y all last = absurd all
zip_push R (a ∷ xs) [] x y all last = absurd all
zip_push R (a ∷ xs) (b ∷ ys) x y all last = (all.0, zip_push R xs ys x y all.1 last)

-- the nodes that steps enter, by their indices
entered_renamed : {N M : Type 0} (name : N → M) (g : ListOf (Arc N)) (steps : ListOf ℕ) → entered (renamed name g) steps ≡ map name (entered g steps)
entered_renamed name g [] = refl
entered_renamed {N = N} {M = M} name g (i ∷ steps) =
    (λ k. option_to_list (option_map (λ (e : Arc M). e.to) (here k)) ++ entered_renamed name g steps k)
    ∙ (ap (λ t. t ++ map name (entered g steps)) (one (slice_get g i)) ∙ sym (map-append name (option_to_list (option_map (λ (e : Arc N). e.to) (slice_get g i))) (entered g steps)))
  where
    here : slice_get (renamed name g) i ≡ option_map (renamed_arc name) (slice_get g i)
    here = slice_get-map (renamed_arc name) g i

    one : (o : Option (Arc N)) → option_to_list (option_map (λ (e : Arc M). e.to) (option_map (renamed_arc name) o)) ≡ map name (option_to_list (option_map (λ (e : Arc N). e.to) o))
    one None = refl
    one (Some e) = refl

module _ (g : Ground) (edges : ListOf Edge) (starts : ListOf ℕ) (links : ListOf Link) (outs ins : Adjacency) (costs : ListOf Label) (whole : IsWhole g edges starts links outs ins costs) where
  -- steps enter nodes of the graph
  entered_in : (steps : ListOf ℕ) → All (Contains (nodes_of g)) (entered (arcs_of edges) steps)
  entered_in [] = All-nil (Contains (nodes_of g))
  entered_in (i ∷ steps) = All-append (Contains (nodes_of g)) _ (entered (arcs_of edges) steps) (one (slice_get (arcs_of edges) i) refl) (entered_in steps)
    where
      one : (o : Option (Arc NodeId)) → slice_get (arcs_of edges) i ≡ o → All (Contains (nodes_of g)) (option_to_list (option_map (λ (e : Arc NodeId). e.to) o))
      one None is = All-nil (Contains (nodes_of g))
      one (Some e) is = All-from_recursion (Contains (nodes_of g)) (e.to ∷ []) ((inside g edges starts links outs ins costs whole i e is).1, tt)

  tree_in : (steps : ListOf ℕ) (a : NodeId) → Contains ((Root ∷ []) ++ entered (arcs_of edges) steps) a → Contains (nodes_of g) a
  tree_in steps a c =
      All-contains (Contains (nodes_of g)) ((Root ∷ []) ++ entered (arcs_of edges) steps) a
      (All-append (Contains (nodes_of g)) (Root ∷ []) (entered (arcs_of edges) steps) (All-from_recursion (Contains (nodes_of g)) (Root ∷ []) ((0, omega arith, refl), tt)) (entered_in steps)) c

  -- the costs that are kept are those from the root
  pub none_ready : IsReady g edges links [] costs
  none_ready = record { count = whole.count; fits = whole.fits; table = whole.table; near = whole.near }

  -- what a single plan weighs stands in the table of the root
  single_is : (v : NodeId) → Contains (nodes_of g) v → (steps : ListOf ℕ) × IsPlan (arcs_of edges) (Root ∷ []) v steps × ((label_at costs (node_index_of g v)).weight ≡ weight_of (arcs_of edges) steps)
  single_is v vn =
      let near = (is_target g edges starts links outs ins costs whole v vn).near in
      let p = has_plan links costs (0 ∷ []) whole.table (node_index_of g v) near in
      let plan = plan_is g edges starts links outs ins costs whole v p.0 vn p.1 in (
        p.0,
        plan,
        tables.weight_is links costs (0 ∷ []) whole.table (node_index_of g v) near p.0 p.1 ∙ weight_is g edges starts links outs ins costs whole plan.walk.0 p.0 v plan.walk.2,
      )

  -- what a single plan weighs is no more than the farthest node
  pub single_light : (v : NodeId) → Contains (nodes_of g) v → (label_at costs (node_index_of g v)).weight ≤ FARTHEST
  single_light v vn = whole.near (node_index_of g v) (let p = node_index_within g v vn in let n = whole.count in omega arith)

  -- one more target
  pub one_weighed : (targets : ListOf NodeId) (singles : ListOf ℕ) → AreWeighed edges targets singles → (target : NodeId) → Contains (nodes_of g) target
      → AreWeighed edges (targets ++ target ∷ []) (singles ++ (label_at costs (node_index_of g target)).weight ∷ [])
  one_weighed targets singles had target vn = record {
    are = zip_push _ targets singles target (label_at costs (node_index_of g target)).weight had.are (single_is target vn);
    light = (let a = had.light in let b = single_light target vn in let n = length_push targets target in let s = sum_push singles (label_at costs (node_index_of g target)).weight in omega arith);
  }

  indices_more : (grafts : ListOf (Graft NodeId)) (x : Graft NodeId)
      → map (node_index_of g) ((Root ∷ []) ++ entered (arcs_of edges) (steps_of grafts)) ++ entered (arcs links) x.steps ≡ map (node_index_of g) ((Root ∷ []) ++ entered (arcs_of edges) (steps_of (grafts ++ x ∷ [])))
  indices_more grafts x =
      ap (λ t. map (node_index_of g) ((Root ∷ []) ++ entered (arcs_of edges) (steps_of grafts)) ++ t) (ap (λ h. entered h x.steps) whole.named ∙ entered_renamed (node_index_of g) (arcs_of edges) x.steps)
      ∙ (sym (map-append (node_index_of g) ((Root ∷ []) ++ entered (arcs_of edges) (steps_of grafts)) (entered (arcs_of edges) x.steps)) ∙ ap (map (node_index_of g)) (nodes_more (arcs_of edges) (Root ∷ []) grafts x))

  -- the costs from the tree with one more graft
  pub one_ready : (grafts : ListOf (Graft NodeId)) (now : ListOf Label) → IsReady g edges links grafts now → (x : Graft NodeId) (new : ListOf Label)
      → length new ≡ length now → CostsFit new → Falls now new
      → ((from : ListOf ℕ) → IsTable (arcs links) from now → IsTable (arcs links) (from ++ entered (arcs links) x.steps) new)
      → IsReady g edges links (grafts ++ x ∷ []) new
  one_ready grafts now ready x new len fits falls table = record {
    count = len ∙ ready.count;
    fits = fits;
    table = subst (λ s. IsTable (arcs links) s new) (indices_more grafts x) (table (map (node_index_of g) ((Root ∷ []) ++ entered (arcs_of edges) (steps_of grafts))) ready.table);
    near = λ v within. (let a = ready.near v (let l = len in omega arith) in let b = (falls v).0 in omega arith);
  }

  module _ (targets : ListOf NodeId) (grafts : ListOf (Graft NodeId)) (weight : ℕ) (now : ListOf Label)
      (had : IsGrown edges targets grafts weight) (ready : IsReady g edges links grafts now)
      (target : NodeId) (vn : Contains (nodes_of g) target) where
    pub near_now : (label_at now (node_index_of g target)).weight ≤ FARTHEST
    near_now = ready.near (node_index_of g target) (let p = node_index_within g target vn in let n = ready.count in omega arith)

    module _ (x : Graft NodeId)
        (plan : (from : ListOf ℕ) → IsTable (arcs links) from now → IsPlan (arcs links) from (node_index_of g target) x.steps)
        (begins : (a : NodeId) → Leads (arcs_of edges) a x.steps target → x.from ≡ a) where
      tree_now : ListOf NodeId
      tree_now = (Root ∷ []) ++ entered (arcs_of edges) (steps_of grafts)

      by_indices : IsPlan (arcs links) (map (node_index_of g) tree_now) (node_index_of g target) x.steps
      unfolding tree_now
      by_indices = plan (map (node_index_of g) tree_now) ready.table

      by_nodes : IsPlan (arcs_of edges) tree_now target x.steps
      unfolding tree_now
      by_nodes =
          plan_named (node_index_of g) (arcs_of edges) (nodes_of g) (apart_indices g) (inside g edges starts links outs ins costs whole) tree_now (tree_in (steps_of grafts)) target x.steps vn
          (subst (λ h. IsPlan h (map (node_index_of g) tree_now) (node_index_of g target) x.steps) whole.named by_indices)

      begins_at : x.from ≡ by_nodes.walk.0
      begins_at = begins by_nodes.walk.0 by_nodes.walk.2

      pub weighs : (label_at now (node_index_of g target)).weight ≡ weight_of (arcs_of edges) x.steps
      unfolding tree_now
      weighs =
          tables.weight_is links now (map (node_index_of g) tree_now) ready.table (node_index_of g target) (let n = near_now in omega arith) x.steps by_indices
          ∙ weight_is g edges starts links outs ins costs whole by_nodes.walk.0 x.steps target by_nodes.walk.2

      -- one more target
      pub one_grown : IsGrown edges (targets ++ target ∷ []) (grafts ++ x ∷ []) (weight + (label_at now (node_index_of g target)).weight)
      unfolding tree_now
      one_grown = record {
        tree = tree_push (arcs_of edges) (Root ∷ []) targets grafts target x had.tree by_nodes (subst (Contains tree_now) (sym begins_at) by_nodes.walk.1) (subst (λ a. Leads (arcs_of edges) a x.steps target) (sym begins_at) by_nodes.walk.2);
        weight_is = (λ i. had.weight_is i + weighs i) ∙ sym (sum_by_push (λ (y : Graft NodeId). weight_of (arcs_of edges) y.steps) grafts x);
        light = (let a = had.light in let b = near_now in let n = length_push targets target in omega arith);
      }

-- with each part told otherwise
pub grown_as : (edges : ListOf Edge) (targets targets' : ListOf NodeId) (grafts grafts' : ListOf (Graft NodeId)) (weight weight' : ℕ)
    → targets' ≡ targets → grafts' ≡ grafts → weight' ≡ weight
    → IsGrown edges targets grafts weight → IsGrown edges targets' grafts' weight'
grown_as edges targets targets' grafts grafts' weight weight' a b d h =
    subst (λ x. IsGrown edges targets' grafts' x) (sym d)
    (subst (λ x. IsGrown edges targets' x weight) (sym b)
    (subst (λ x. IsGrown edges x grafts weight) (sym a) h))

pub weighed_as : (edges : ListOf Edge) (targets targets' : ListOf NodeId) (singles singles' : ListOf ℕ) → targets' ≡ targets → singles' ≡ singles
    → AreWeighed edges targets singles → AreWeighed edges targets' singles'
weighed_as edges targets targets' singles singles' a c h =
    subst (λ x. AreWeighed edges targets' x) (sym c) (subst (λ x. AreWeighed edges x singles) (sym a) h)
