-- The leaves and interior nodes of an index, among the nodes of its graph.
use Rattle.std.specs.Prelude.{◌≡◌, ◌≤◌, ℕ, true}
use Rattle.std.specs.List.{Contains}
use Rattle.dg_history.specs.declared.node.NodeId.{NodeId}
use Rattle.dg_history.specs.declared.node.NodeId.TheVariants.{Root, Now, Recent, Leaf, List, Inner}
use Rattle.dg_history.specs.declared.params.Params.{Params}
use Rattle.dg_index.specs.Hierarchy.{exists, leaves}
use Rattle.dg_plan.specs.IndexGraph.{Ground, nodes_of}

-- the node is a leaf or an interior node
abbrev pub IsLeafOrInner : NodeId → Type 0
IsLeafOrInner Root = ⊥
IsLeafOrInner Now = ⊥
IsLeafOrInner Recent = ⊥
IsLeafOrInner (Leaf j) = Unit {0}
IsLeafOrInner (List i) = ⊥
IsLeafOrInner (Inner h j) = Unit {0}

-- The graph of an index with so many events has each leaf and each interior node that exists then, whatever its bases
-- and weights and whether the graph after all events is in memory.
abbrev pub NodesAreListed : Type 0
NodesAreListed =
    (p : Params) (n : ℕ) → 2 ≤ p.k → (g : Ground) → g.leaves ≡ leaves p n → g.arity ≡ p.k
    → (node : NodeId) → IsLeafOrInner node → exists p n node ≡ true → Contains (nodes_of g) node
