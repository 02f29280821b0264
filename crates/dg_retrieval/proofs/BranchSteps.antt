-- The branches of a tree as they are made, graft by graft.
use Rattle.std.proofs.Common.{◌≡◌, ℕ, ◌+◌, ◌<◌, List as ListOf, [], ◌∷◌, ◌++◌, get_or, length, take, sym, ap, subst, ◌∙◌, arith}
use Rattle.std.proofs.lemmas.List.{map-append, take_more}
use Rattle.dg_fold.specs.declared.tree.Branch.{Branch}
use Rattle.dg_history.specs.declared.node.NodeId.{NodeId}
use Rattle.dg_history.specs.declared.node.NodeId.TheVariants.{Root}
use Rattle.dg_plan.specs.declared.edge.Edge.{Edge}
use Rattle.dg_plan.specs.Walks.{Graft}
use Rattle.dg_planner.specs.declared.tree.Graft.{Graft as PlannedGraft}
use Rattle.dg_planner.specs.Trees.{node_graft, node_grafts}
use Rattle.dg_retrieval.specs.Branches.{AreBranches, IsBranch}
use Rattle.dg_retrieval.proofs.BranchTrees.{branches_more}

-- with the branch of one graft more
pub branches_step : (edges : ListOf Edge) (targets : ListOf NodeId) (xs : ListOf PlannedGraft) (done next : ListOf Branch) (i : ℕ) (x : PlannedGraft) (b : Branch) → length xs ≡ length targets
    → i < length xs → get_or xs i x ≡ x → AreBranches edges (take i targets) (node_grafts (take i xs)) done → next ≡ done ++ b ∷ [] → IsBranch edges (get_or targets i Root) (node_graft x) b
    → AreBranches edges (take (i + 1) targets) (node_grafts (take (i + 1) xs)) next
branches_step edges targets xs done next i x b many within here are is one =
    let more : AreBranches edges (take i targets ++ get_or targets i Root ∷ []) (node_grafts (take i xs) ++ node_graft x ∷ []) (done ++ b ∷ []) =
    branches_more edges (take i targets) (node_grafts (take i xs)) done (get_or targets i Root) (node_graft x) b are one in
    let ends : take (i + 1) targets ≡ take i targets ++ get_or targets i Root ∷ [] = take_more targets i Root (omega (arith, many, within)) in
    let grafts : node_grafts (take (i + 1) xs) ≡ node_grafts (take i xs) ++ node_graft x ∷ [] =
    ap node_grafts (take_more xs i x within) ∙ map-append node_graft (take i xs) (get_or xs i x ∷ []) ∙ ap (λ (y : PlannedGraft). node_grafts (take i xs) ++ node_graft y ∷ []) here in
    subst (λ (bs : ListOf Branch). AreBranches edges (take (i + 1) targets) (node_grafts (take (i + 1) xs)) bs) (sym is)
    (subst (λ (gs : ListOf (Graft NodeId)). AreBranches edges (take (i + 1) targets) gs (done ++ b ∷ [])) (sym grafts)
    (subst (λ (vs : ListOf NodeId). AreBranches edges vs (node_grafts (take i xs) ++ node_graft x ∷ []) (done ++ b ∷ [])) (sym ends) more))
