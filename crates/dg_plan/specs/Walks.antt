-- Walks in a graph, and what they cost. The edges of a graph are numbered in the order of their list.
use Rattle.std.specs.Prelude.{map, ◌≡◌, ◌++◌, ℕ, ◌+◌, ◌≤◌, List, [], ◌∷◌, length, Option, Some, None, slice_get, min}
use Rattle.std.specs.List.{All, AllZip, Contains, flat_map, sum_by}
use Rattle.std.specs.Option.{option_map, option_to_list}

-- an edge between two nodes, and its weight
pub record Arc (N : Type 0) : Type 0 where
  pub from : N
  pub to : N
  pub weight : ℕ

-- The steps are a walk from a to b: each is the number of an edge that leaves the node reached.
abbrev pub Leads : {N : Type 0} → List (Arc N) → N → List ℕ → N → Type 0
Leads g a [] b = a ≡ b
Leads {N} g a (i ∷ steps) b = (e : Arc N) × (slice_get g i ≡ Some e) × (e.from ≡ a) × Leads g e.to steps b

abbrev pub weight_in : {N : Type 0} → Option (Arc N) → ℕ
weight_in None = 0
weight_in (Some e) = e.weight

-- the sum of the weights of the steps
abbrev pub weight_of : {N : Type 0} → List (Arc N) → List ℕ → ℕ
weight_of g steps = sum_by (λ i. weight_in (slice_get g i)) steps

-- A cost is a weight and a number of edges.
abbrev pub Cost : Type 0
Cost = ℕ × ℕ

abbrev pub no_cost : Cost
no_cost = (0, 0)

-- what a walk costs
abbrev pub cost_of : {N : Type 0} → List (Arc N) → List ℕ → Cost
cost_of g steps = (weight_of g steps, length steps)

-- the cost with one more edge
abbrev pub with_edge : Cost → ℕ → Cost
with_edge c weight = (c.0 + weight, c.1 + 1)

-- the first cost is not above the second: by weight, and with equal weights by the number of edges
abbrev pub AtMost : Cost → Cost → Type 0
AtMost c d = (c.0 ≤ d.0) × (c.0 ≡ d.0 → c.1 ≤ d.1)

-- the steps are a walk to the node from one of the starting nodes
abbrev pub Reaches : {N : Type 0} → List (Arc N) → List N → List ℕ → N → Type 0
Reaches {N} g starts steps node = (a : N) × Contains starts a × Leads g a steps node

-- the cost of a walk to the node, and no walk to it costs less
pub record IsLeast {N : Type 0} (g : List (Arc N)) (starts : List N) (node : N) (c : Cost) : Type 0 where
  pub steps : List ℕ
  pub walk : Reaches g starts steps node
  pub is : cost_of g steps ≡ c
  pub least : (others : List ℕ) → Reaches g starts others node → AtMost c (cost_of g others)

-- the edge of this number attains the least cost of its head
pub record Attains {N : Type 0} (g : List (Arc N)) (starts : List N) (i : ℕ) : Type 0 where
  pub edge : Arc N
  pub there : slice_get g i ≡ Some edge
  pub before : Cost
  pub tail : IsLeast g starts edge.from before
  pub head : IsLeast g starts edge.to (with_edge before edge.weight)

-- it is the least-numbered edge that does
pub record IsBest {N : Type 0} (g : List (Arc N)) (starts : List N) (i : ℕ) : Type 0 where
  pub attains : Attains g starts i
  pub first : (k : ℕ) (other : Attains g starts k) → other.edge.to ≡ attains.edge.to → i ≤ k

-- The plan of a node: the walk from a starting node whose every step is the least-numbered edge that
-- attains the least cost of its head.
pub record IsPlan {N : Type 0} (g : List (Arc N)) (starts : List N) (node : N) (steps : List ℕ) : Type 0 where
  pub walk : Reaches g starts steps node
  pub best : All (IsBest g starts) steps

-- A certificate that no walk from the root to the target weighs less than this one: a potential of each
-- node, such that no edge rises more than its weight.
pub record IsCertificate {N : Type 0} (g : List (Arc N)) (root target : N) (potential : N → ℕ) (steps : List ℕ) (weight : ℕ) : Type 0 where
  pub walk : Leads g root steps target
  pub root_at_zero : potential root ≡ 0
  pub rises : (i : ℕ) (e : Arc N) → slice_get g i ≡ Some e → potential e.to ≤ potential e.from + e.weight
  pub at_target : potential target ≡ weight
  pub tight : weight_of g steps ≡ weight

-- The potential of a node, as a plan has it: its least weight, cut at a weight.
abbrev pub IsPotential : {N : Type 0} → List (Arc N) → List N → ℕ → N → ℕ → Type 0
IsPotential g starts weight node potential = (c : Cost) × IsLeast g starts node c × (potential ≡ min c.0 weight)

-- the potential of each node that has a least cost is its least weight, cut at a weight
abbrev pub ArePotentials : {N : Type 0} → List (Arc N) → List N → ℕ → (N → ℕ) → Type 0
ArePotentials {N} g starts weight potential = (node : N) (c : Cost) → IsLeast g starts node c → potential node ≡ min c.0 weight

-- each end of an edge has a least cost
abbrev pub AllHaveLeast : {N : Type 0} → List (Arc N) → List N → Type 0
AllHaveLeast {N} g starts = (i : ℕ) (e : Arc N) → slice_get g i ≡ Some e → ((c : Cost) × IsLeast g starts e.from c) × ((c : Cost) × IsLeast g starts e.to c)

-- the nodes that the steps enter
abbrev pub entered : {N : Type 0} → List (Arc N) → List ℕ → List N
entered g [] = []
entered g (i ∷ steps) = option_to_list (option_map (λ e. e.to) (slice_get g i)) ++ entered g steps

-- One graft of a tree: the node of the tree at which it begins, and its steps.
pub record Graft (N : Type 0) : Type 0 where
  pub from : N
  pub steps : List ℕ

-- The tree of several targets: for each in order the plan that begins at the nearest node of the tree so far is added.
abbrev pub IsTree : {N : Type 0} → List (Arc N) → List N → List N → List (Graft N) → Type 0
IsTree g tree [] [] = Unit {0}
IsTree g tree (target ∷ targets) (graft ∷ grafts) =
    IsPlan g tree target graft.steps × Contains tree graft.from × Leads g graft.from graft.steps target × IsTree g (tree ++ entered g graft.steps) targets grafts
IsTree g tree [] (graft ∷ grafts) = ⊥
IsTree g tree (target ∷ targets) [] = ⊥

-- the weight of a tree is that of all its grafts
abbrev pub tree_weight : {N : Type 0} → List (Arc N) → List (Graft N) → ℕ
tree_weight g grafts = sum_by (λ graft. weight_of g graft.steps) grafts

-- the weights of the targets' single plans, in order
abbrev pub AreSingles : {N : Type 0} → List (Arc N) → List N → List N → List ℕ → Type 0
AreSingles g starts targets weights = AllZip (λ target weight. (steps : List ℕ) × IsPlan g starts target steps × (weight ≡ weight_of g steps)) targets weights

-- all steps of a tree, in order
abbrev pub steps_of : {N : Type 0} → List (Graft N) → List ℕ
steps_of grafts = flat_map (λ graft. graft.steps) grafts

-- each step leaves a node of the tree so far, and enters one that is not in it
abbrev pub Grows : {N : Type 0} → List (Arc N) → List N → List ℕ → Type 0
Grows g tree [] = Unit {0}
Grows {N} g tree (i ∷ steps) = (e : Arc N) × (slice_get g i ≡ Some e) × Contains tree e.from × (Contains tree e.to → ⊥) × Grows g (tree ++ e.to ∷ []) steps

-- the graph whose nodes are named otherwise
abbrev pub renamed_arc : {N M : Type 0} → (N → M) → Arc N → Arc M
renamed_arc name e = record { from = name e.from; to = name e.to; weight = e.weight }

abbrev pub renamed : {N M : Type 0} → (N → M) → List (Arc N) → List (Arc M)
renamed name g = map (renamed_arc name) g
