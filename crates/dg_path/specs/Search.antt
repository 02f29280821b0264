-- What a search for least costs keeps.
use Rattle.std.specs.Prelude.{if◌then◌else◌, ◌++◌, true, ◌∷◌, slice_set, ◌*◌, ◌≡◌, ◌≢◌, ℕ, ◌+◌, ◌≤◌, ◌<◌, ◌==◌, ◌^◌, Bool, ◌&&◌, ◌||◌, List, length, nat_lt, slice_get, slice_index_or, Some, map, ◌⊎◌}
use Rattle.std.specs.List.{All, Contains, count_by, sum_by}
use Rattle.std.specs.List.Sorted.{IsPermutation}
use Rattle.dg_path.specs.declared.search.Link.{Link}
use Rattle.dg_path.specs.declared.search.Waiting.{Waiting}
use Rattle.dg_path.specs.declared.search.Cost.{Cost as Label}
use Rattle.dg_path.specs.declared.tree.Grafted.{Grafted}
use Rattle.dg_path.specs.declared.search.TheConstants.{UNREACHED}
use Rattle.std.specs.declared.cmp.Reverse.{Reverse}
use Rattle.dg_plan.specs.Walks.{Arc, Cost, Reaches, cost_of, with_edge, AtMost, no_cost, Graft}

-- the edges of a list of links
abbrev pub arc : Link → Arc ℕ
arc l = record { from = l.tail; to = l.head; weight = l.weight }

abbrev pub arcs : List Link → List (Arc ℕ)
arcs links = map arc links

abbrev pub cheaper : Label → Label → Bool
cheaper c d = nat_lt c.weight d.weight || (c.weight == d.weight && nat_lt c.edges d.edges)

abbrev pub seen : Label → Cost
seen c = (c.weight, c.edges)

abbrev pub label_at : List Label → ℕ → Label
label_at costs v = slice_index_or costs v UNREACHED

abbrev pub cost_at : List Label → ℕ → Cost
cost_at costs v = seen (label_at costs v)

-- the ends of each link are below the number of nodes
pub record IsLink (nodes : ℕ) (l : Link) : Type 0 where
  pub tail : l.tail < nodes
  pub head : l.head < nodes

abbrev pub AreLinks : List Link → ℕ → Type 0
AreLinks links nodes = All (IsLink nodes) links

-- the end of a link at which it leaves a node, or enters one
abbrev pub end_of : Bool → Link → ℕ
end_of leaving l = if leaving then l.tail else l.head

-- r is the least link from number k on that leaves (or enters) the node, or past the last link where there is none
pub record IsNext (leaving : Bool) (links : List Link) (node k r : ℕ) : Type 0 where
  pub above : k ≤ r
  pub bound : r < 2 ^ 32
  pub skipped : (i : ℕ) (l : Link) → k ≤ i → i < r → slice_get links i ≡ Some l → end_of leaving l ≢ node
  pub there : (l : Link) → slice_get links r ≡ Some l → end_of leaving l ≡ node

-- the links from a number on are threaded
pub record AreThreaded (leaving : Bool) (links : List Link) (first next : List ℕ) (nodes at : ℕ) : Type 0 where
  pub firsts : length first ≡ nodes
  pub nexts : length next ≡ length links
  pub first_is : (v : ℕ) → v < nodes → IsNext leaving links v at (slice_index_or first v 0)
  pub next_is : (i : ℕ) (l : Link) → at ≤ i → slice_get links i ≡ Some l → IsNext leaving links (end_of leaving l) (i + 1) (slice_index_or next i 0)

abbrev pub AreAdjacent : Bool → List Link → List ℕ → List ℕ → ℕ → Type 0
AreAdjacent leaving links first next nodes = AreThreaded leaving links first next nodes 0

-- each cost counts no more edges than there are nodes that cost less, and no more nodes than a u32 counts
pub record CostsFit (costs : List Label) : Type 0 where
  pub few : length costs + 1 < 2 ^ 32
  pub edges : (v : ℕ) → v < length costs → (label_at costs v).edges ≤ count_by (λ c. cheaper c (label_at costs v)) costs
  pub far : (v : ℕ) → v < length costs → AtMost (cost_at costs v) (seen UNREACHED)

-- no edge can lower a cost
abbrev pub AreCostsSettled : List (Arc ℕ) → List Label → Type 0
AreCostsSettled g costs = (i : ℕ) (e : Arc ℕ) → slice_get g i ≡ Some e → AtMost (cost_at costs e.to) (with_edge (cost_at costs e.from) e.weight)

-- each cost but the far one is that of a walk from one of the starting nodes
abbrev pub Walked : List (Arc ℕ) → List ℕ → List Label → Type 0
Walked g starts costs = (v : ℕ) → (label_at costs v).weight < UNREACHED.weight → (steps : List ℕ) × Reaches g starts steps v × (cost_of g steps ≡ cost_at costs v)

-- no edge that leaves the node can lower a cost
abbrev pub IsDone : List (Arc ℕ) → List Label → ℕ → Type 0
IsDone g costs v = (i : ℕ) (e : Arc ℕ) → slice_get g i ≡ Some e → e.from ≡ v → AtMost (cost_at costs e.to) (with_edge (cost_at costs v) e.weight)

-- a node as it waits at its cost
abbrev pub waiting : List Label → ℕ → Reverse Waiting
waiting costs v = record { 0 = record { weight = (label_at costs v).weight; edges = (label_at costs v).edges; node = v } }

-- the node is done, or waits at its cost
abbrev pub IsCostKnown : List (Arc ℕ) → List Label → List (Reverse Waiting) → ℕ → Type 0
IsCostKnown g costs queue v = IsDone g costs v ⊎ Contains queue (waiting costs v)

abbrev pub AllKnown : List (Arc ℕ) → List Label → List (Reverse Waiting) → Type 0
AllKnown g costs queue = (v : ℕ) → v < length costs → IsCostKnown g costs queue v

-- no cost has risen
abbrev pub Falls : List Label → List Label → Type 0
Falls old new = (v : ℕ) → AtMost (cost_at new v) (cost_at old v)

-- how much work is left at the most
abbrev pub as_number : Label → ℕ
as_number c = c.weight * 2 ^ 32 + c.edges

abbrev pub effort : List Label → ℕ → ℕ
effort costs waits = 2 * sum_by as_number costs + waits

-- What lowering the heads of the links below a number that leave the node has done.
pub record Lowered (links : List Link) (node at : ℕ) (old : List Label) (waits : List (Reverse Waiting)) (new : List Label) (waiting_now : List (Reverse Waiting)) : Type 0 where
  pub len : length new ≡ length old
  pub same : label_at new node ≡ label_at old node
  pub fits : CostsFit new
  pub falls : Falls old new
  pub walks : (starts : List ℕ) → Walked (arcs links) starts old → Walked (arcs links) starts new
  pub relaxed : (i : ℕ) (l : Link) → i < at → slice_get links i ≡ Some l → l.tail ≡ node → AtMost (cost_at new l.head) (with_edge (cost_at old node) l.weight)
  pub known : (v : ℕ) → v ≢ node → IsCostKnown (arcs links) old waits v → IsCostKnown (arcs links) new waiting_now v
  pub effort : effort new (length waiting_now) ≤ effort old (length waits)

-- What one link can do to the costs, where the walk so far costs `from`: it lowers its head, which then
-- waits, or it cannot.
abbrev pub Lowers : Label → Link → List Label → List (Reverse Waiting) → List Label → List (Reverse Waiting) → Type 0
Lowers from link old waits new waiting_now =
    ((new ≡ old) × (waiting_now ≡ waits) × AtMost (cost_at old link.head) (with_edge (seen from) link.weight))
    ⊎ ((through : Label) × (seen through ≡ with_edge (seen from) link.weight) × (cheaper through (label_at old link.head) ≡ true)
    × (new ≡ slice_set old link.head through)
    × IsPermutation (record { 0 = record { weight = through.weight; edges = through.edges; node = link.head } } ∷ waits) waiting_now)

-- What the costs are once the search is done: of each node to which there is a walk that is not too heavy, the
-- least cost.
pub record IsTable (g : List (Arc ℕ)) (starts : List ℕ) (costs : List Label) : Type 0 where
  pub settled : AreCostsSettled g costs
  pub walked : Walked g starts costs
  pub zero : (a : ℕ) → Contains starts a → cost_at costs a ≡ no_cost

-- the link attains the cost of its head
abbrev pub Meets : List Label → Link → Type 0
Meets costs l = cost_at costs l.head ≡ with_edge (cost_at costs l.tail) l.weight

-- the least-numbered link into the node that attains its cost
pub record IsFirstInto (links : List Link) (costs : List Label) (node i : ℕ) : Type 0 where
  pub link : Link
  pub there : slice_get links i ≡ Some link
  pub enters : link.head ≡ node
  pub meets : Meets costs link
  pub first : (k : ℕ) (l : Link) → slice_get links k ≡ Some l → l.head ≡ node → Meets costs l → i ≤ k

-- What becomes of the costs where these nodes are starting nodes too.
pub record WithStarts (more : List ℕ) (old : List Label) (waits : List (Reverse Waiting)) (new : List Label) (waiting_now : List (Reverse Waiting)) : Type 0 where
  pub len : length new ≡ length old
  pub fits : CostsFit new
  pub walks : (g : List (Arc ℕ)) (starts : List ℕ) → Walked g starts old → Walked g (starts ++ more) new
  pub zero : (starts : List ℕ) → ((a : ℕ) → Contains starts a → cost_at old a ≡ no_cost) → (a : ℕ) → Contains (starts ++ more) a → cost_at new a ≡ no_cost
  pub known : (g : List (Arc ℕ)) (v : ℕ) → IsCostKnown g old waits v → IsCostKnown g new waiting_now v
  pub falls : Falls old new

-- a graft as the definitions have it
abbrev pub graft_of : Grafted → Graft ℕ
graft_of x = record { from = x.from; steps = x.steps.items }

abbrev pub grafts_of : List Grafted → List (Graft ℕ)
grafts_of xs = map graft_of xs

-- the target is a node whose cost is known
pub record IsTarget (costs : List Label) (target : ℕ) : Type 0 where
  pub within : target < length costs
  pub near : (label_at costs target).weight < UNREACHED.weight
