-- The branches of a tree: for each target, the edges of its graft.
use Rattle.std.specs.Prelude.{◌≡◌, List, [], ◌∷◌}
use Rattle.dg_fold.specs.declared.tree.Branch.{Branch}
use Rattle.dg_plan.specs.TreePaths.{edges_at}
use Rattle.dg_history.specs.declared.node.NodeId.{NodeId}
use Rattle.dg_plan.specs.declared.edge.Edge.{Edge}
use Rattle.dg_plan.specs.Walks.{Graft}

-- the branch of a graft to its target
pub record IsBranch (edges : List Edge) (target : NodeId) (graft : Graft NodeId) (b : Branch) : Type 0 where
  pub from : b.from ≡ graft.from
  pub steps : b.edges.items ≡ edges_at edges graft.steps
  pub to : b.to ≡ target

-- one branch for each target and graft, in order
abbrev pub AreBranches : List Edge → List NodeId → List (Graft NodeId) → List Branch → Type 0
AreBranches edges [] [] [] = Unit {0}
AreBranches edges [] [] (b ∷ branches) = ⊥
AreBranches edges [] (x ∷ grafts) branches = ⊥
AreBranches edges (v ∷ targets) [] branches = ⊥
AreBranches edges (v ∷ targets) (x ∷ grafts) [] = ⊥
AreBranches edges (v ∷ targets) (x ∷ grafts) (b ∷ branches) = IsBranch edges v x b × AreBranches edges targets grafts branches
