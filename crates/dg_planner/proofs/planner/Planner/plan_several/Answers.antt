use Rattle.std.proofs.Common.{[], ◌∷◌, arith}
use Rattle.dg_history.specs.declared.node.NodeId.TheVariants.{Root}
use Rattle.dg_plan.specs.IndexGraph.{arcs_of}
use Rattle.dg_plan.proofs.WalkTrees.{tree_weighs}
use Rattle.dg_planner.specs.Trees.{node_grafts}
use Rattle.dg_planner.proofs.planner.Planner.plan_several.Goals as goal

pub returns-clause-shared : goal.returns-clause-shared
returns-clause-shared c =
    let tree = c.in_ok-grafts in
    let singles = c.in_ok-weights in
    let low = tree_weighs (arcs_of c.args.self.now.edges) (Root ∷ []) (Root ∷ []) (λ a in'. in') c.args.targets.now (node_grafts tree.field-0.grafts.items) singles.field-0.weights.items tree.ensures.tree singles.ensures.are in
    let is = tree.ensures.weight in
    omega arith
