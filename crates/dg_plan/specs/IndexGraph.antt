-- The index graph: its nodes in their order, and its edges, each numbered by its index in the list.
use Rattle.std.specs.Prelude.{◌≤◌, ℕ, suc, zero, ◌+◌, ◌-◌, ◌*◌, ◌/◌, ◌^◌, Bool, true, false, not, cond, List as ListOf, [], ◌∷◌, ◌++◌, map, filter}
use Rattle.std.specs.List.{flat_map, sum_by}
use Rattle.dg_index.specs.Hierarchy.{numbers}
use Rattle.dg_index.specs.IndexRecords.{heights}
use Rattle.dg_plan.specs.Walks.{Arc, Leads, weight_of}
use Rattle.dg_history.specs.declared.node.NodeId.{NodeId}
use Rattle.dg_history.specs.declared.node.NodeId.TheVariants.{Root, Now, Recent, Leaf, List, Inner}
use Rattle.dg_history.specs.declared.node.Key.{Key}
use Rattle.dg_history.specs.declared.node.Key.TheVariants as key
use Rattle.dg_plan.specs.declared.edge.Edge.{Edge}
use Rattle.dg_plan.specs.declared.edge.Via.{Via}
use Rattle.dg_plan.specs.declared.edge.Via.TheVariants as via
use Rattle.dg_plan.specs.declared.edge.Way.TheVariants.{Same, Forward, Back}

-- What the graph is made of: the number of leaves and the arity; the bases that can serve, by rising handle; whether the
-- graph after all events is in memory; and the weight of each record.
pub record Ground : Type 0 where
  pub leaves : ℕ
  pub arity : ℕ
  pub bases : ListOf (ℕ × NodeId)
  pub memory : Bool
  pub weight : Key → ℕ

-- the number of interior nodes of a height
abbrev pub inners_at : ℕ → ℕ → ℕ → ℕ
inners_at leaves arity h = leaves / arity ^ h

-- the node of this number in a level; level 0 is the leaves
abbrev pub level_node : ℕ → ℕ → NodeId
level_node zero j = Leaf j
level_node (suc h) j = Inner (suc h) j

-- the leaf of this number; Leaf 0 is the root
abbrev pub leaf : ℕ → NodeId
leaf zero = Root
leaf (suc j) = Leaf (suc j)

abbrev pub is_root : NodeId → Bool
is_root Root = true
is_root Now = false
is_root Recent = false
is_root (Leaf j) = false
is_root (List i) = false
is_root (Inner h j) = false

abbrev pub edge : NodeId → NodeId → ℕ → Via → Edge
edge from to weight way = record { from = from; to = to; weight = weight; via = way }

-- ---- the nodes

abbrev pub inner_nodes : Ground → ListOf NodeId
inner_nodes g = flat_map (λ h. map (λ j. Inner h j) (numbers 1 (inners_at g.leaves g.arity h))) (heights g.arity g.leaves)

abbrev pub nodes_of : Ground → ListOf NodeId
nodes_of g =
    Root ∷ (cond g.memory (Now ∷ Recent ∷ []) []
    ++ (map (λ j. Leaf j) (numbers 1 g.leaves) ++ (map (λ i. List i) (numbers 0 g.leaves) ++ inner_nodes g)))

-- ---- the edges

abbrev pub base_edge : (ℕ × NodeId) → Edge
base_edge b = edge Root b.1 0 (via.Base b.0)

-- from the root to the first interior node of a height
abbrev pub top_edge : (Key → ℕ) → ℕ → Edge
top_edge weight h = edge Root (Inner h 1) (weight (key.Top h)) (via.Paid (key.Top h) Forward)

-- from the root to what is in memory, and to the first interior node of each height
abbrev pub first_edges : Ground → ListOf Edge
first_edges g =
    cond g.memory (edge Root Now 0 via.Now ∷ []) []
    ++ (map base_edge g.bases
    ++ map (top_edge g.weight) (heights g.arity g.leaves))

-- into a list of events from the leaves on both sides, and out of it
abbrev pub list_edges : (Key → ℕ) → ℕ → ListOf Edge
list_edges weight i =
    edge (leaf i) (List i) (weight (key.List i)) (via.Paid (key.List i) Same)
    ∷ edge (leaf (suc i)) (List i) (weight (key.List i)) (via.Paid (key.List i) Back)
    ∷ edge (List i) (leaf i) 0 (via.Held (key.List i) Same)
    ∷ edge (List i) (leaf (suc i)) 0 (via.Held (key.List i) Forward)
    ∷ []

-- between an interior node and one of its children
abbrev pub child_edges : (Key → ℕ) → ℕ → ℕ → ℕ → ListOf Edge
child_edges weight h j c =
    edge (Inner (h + 1) j) (level_node h c) (weight (key.Down (h + 1) c)) (via.Paid (key.Down (h + 1) c) Forward)
    ∷ edge (level_node h c) (Inner (h + 1) j) (weight (key.Down (h + 1) c)) (via.Paid (key.Down (h + 1) c) Back)
    ∷ []

-- the edges of an interior node of height h + 1
abbrev pub inner_edges : (Key → ℕ) → ℕ → ℕ → ℕ → ListOf Edge
inner_edges weight arity h j = flat_map (child_edges weight h j) (numbers ((j - 1) * arity + 1) arity)

-- the edges of the interior nodes of a height
abbrev pub level_edges : (Key → ℕ) → ℕ → ℕ → ℕ → ListOf Edge
level_edges weight leaves arity h = flat_map (inner_edges weight arity (h - 1)) (numbers 1 (inners_at leaves arity h))

abbrev pub recent_edges : ℕ → ListOf Edge
recent_edges leaves =
    edge Now Recent 0 (via.Recent Back)
    ∷ edge Recent Now 0 (via.Recent Forward)
    ∷ edge Recent (leaf leaves) 0 (via.Recent Same)
    ∷ edge (leaf leaves) Recent 0 (via.Recent Same)
    ∷ []

-- an edge that would enter the root is left out
abbrev pub kept : ListOf Edge → ListOf Edge
kept edges = filter (λ (e : Edge). not (is_root e.to)) edges

abbrev pub edges_of : Ground → ListOf Edge
edges_of g =
    kept
    (first_edges g
    ++ (flat_map (list_edges g.weight) (numbers 0 g.leaves)
    ++ (flat_map (level_edges g.weight g.leaves g.arity) (heights g.arity g.leaves)
    ++ cond g.memory (recent_edges g.leaves) [])))

-- ---- walks

abbrev pub arc_of : Edge → Arc NodeId
arc_of e = record { from = e.from; to = e.to; weight = e.weight }

abbrev pub arcs_of : ListOf Edge → ListOf (Arc NodeId)
arcs_of edges = map arc_of edges

-- there is a walk from the root that weighs at most so much
pub record IsReached (g : Ground) (node : NodeId) (most : ℕ) : Type 0 where
  pub steps : ListOf ℕ
  pub walk : Leads (arcs_of (edges_of g)) Root steps node
  pub weighs : weight_of (arcs_of (edges_of g)) steps ≤ most

-- the weights of the lists before a leaf
abbrev pub lists_before : (Key → ℕ) → ℕ → ℕ
lists_before weight j = sum_by (λ i. weight (key.List i)) (numbers 0 j)
