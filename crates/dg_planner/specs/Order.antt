-- The index of a node in the order of nodes.
use Rattle.std.specs.Prelude.{◌≤◌, ◌<◌, Bool, List as ListOf, length, slice_index, ◌≡◌, ℕ, ◌+◌, ◌-◌, ◌^◌, cond, filter, map, nat_le, []}
use Rattle.std.specs.Bool.{⊤}
use Rattle.std.specs.List.{sum_by}
use Rattle.dg_history.specs.declared.node.NodeId.{NodeId}
use Rattle.dg_history.specs.declared.node.NodeId.TheVariants.{Root, Now, Recent, Leaf, List, Inner}
use Rattle.dg_plan.specs.declared.edge.Edge.{Edge}
use Rattle.dg_index.specs.Hierarchy.{numbers}
use Rattle.dg_index.specs.IndexRecords.{heights}
use Rattle.dg_plan.specs.IndexGraph.{Ground, inners_at}

-- the interior nodes below a height
abbrev pub inners_below : ℕ → ℕ → ℕ → ℕ
inners_below leaves arity h = sum_by (inners_at leaves arity) (filter (λ x. nat_le (arity ^ x) leaves) (numbers 1 (h - 1)))

-- the index of the first leaf
abbrev pub first_leaf : Bool → ℕ
first_leaf memory = cond memory 3 1

abbrev pub node_index_in : ℕ → ℕ → Bool → NodeId → ℕ
node_index_in leaves arity memory Root = 0
node_index_in leaves arity memory Now = 1
node_index_in leaves arity memory Recent = 2
node_index_in leaves arity memory (Leaf j) = first_leaf memory + (j - 1)
node_index_in leaves arity memory (List i) = first_leaf memory + leaves + i
node_index_in leaves arity memory (Inner h j) = first_leaf memory + leaves + leaves + inners_below leaves arity h + (j - 1)

abbrev pub node_index_of : Ground → NodeId → ℕ
node_index_of g node = node_index_in g.leaves g.arity g.memory node

-- a graph of this form with no bases, whose records weigh nothing: it has the same nodes as any other
abbrev pub bare_ground : ℕ → ℕ → Bool → Ground
bare_ground leaves arity memory = record { leaves = leaves; arity = arity; bases = []; memory = memory; weight = λ k. 0 }

-- the interior nodes of a height
abbrev pub inners_of : ℕ → ℕ → ℕ → ListOf NodeId
inners_of leaves arity h = map (λ j. Inner h j) (numbers 1 (inners_at leaves arity h))

-- the node is one of the graph; Now and Recent are where the graph after all events is in memory
abbrev pub IsGraphNode : ℕ → ℕ → NodeId → Type 0
IsGraphNode leaves arity Root = ⊤
IsGraphNode leaves arity Now = ⊤
IsGraphNode leaves arity Recent = ⊤
IsGraphNode leaves arity (Leaf j) = (1 ≤ j) × (j ≤ leaves)
IsGraphNode leaves arity (List i) = i < leaves
IsGraphNode leaves arity (Inner h j) = (1 ≤ h) × (1 ≤ j) × (j ≤ leaves) × (arity ^ h ≤ leaves)

-- the interior nodes below each height
pub record AreStarts (leaves arity : ℕ) (starts : ListOf ℕ) : Type 0 where
  pub there : (h : ℕ) → 1 ≤ h → arity ^ h ≤ leaves → h - 1 < length starts
  pub are : (h : ℕ) → 1 ≤ h → arity ^ h ≤ leaves → slice_index starts (h - 1) ≡ inners_below leaves arity h
  pub low : (h : ℕ) → slice_index starts h ≤ leaves
  pub some : 0 < length starts
  pub whole : slice_index starts (length starts - 1) ≡ sum_by (inners_at leaves arity) (heights arity leaves)

-- both ends of the edge are nodes
abbrev pub HasEnds : ℕ → ℕ → Edge → Type 0
HasEnds leaves arity e = IsGraphNode leaves arity e.from × IsGraphNode leaves arity e.to

-- the number of nodes
abbrev pub count_in : ℕ → ℕ → Bool → ℕ
count_in leaves arity memory = first_leaf memory + leaves + leaves + sum_by (inners_at leaves arity) (heights arity leaves)
