-- The tree of several targets, and the walk along it.
use Rattle.std.specs.Prelude.{◌≡◌, List, [], ◌∷◌}
use Rattle.dg_fold.specs.declared.tree.Branch.{Branch}
use Rattle.dg_fold.specs.Trees.{all_edges}
use Rattle.dg_history.specs.declared.node.NodeId.{NodeId}
use Rattle.dg_history.specs.declared.node.NodeId.TheVariants.{Root}
use Rattle.dg_plan.specs.declared.edge.Edge.{Edge}
use Rattle.dg_plan.specs.IndexGraph.{arcs_of}
use Rattle.dg_plan.specs.Walks.{Graft, IsTree}
use Rattle.dg_retrieval.specs.Branches.{AreBranches}

-- The walk goes along a tree of the targets over these edges: along the branch of each target, one after another.
pub record IsTreeWalk (edges : List Edge) (targets : List NodeId) (grafts : List (Graft NodeId)) (branches : List Branch) (walk : List Edge) : Type 0 where
  pub tree : IsTree (arcs_of edges) (Root ∷ []) targets grafts
  pub made : AreBranches edges targets grafts branches
  pub along : walk ≡ all_edges branches
