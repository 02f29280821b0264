use Rattle.std.proofs.Common.{◌≡◌, ◌+◌, ◌<◌, [], ◌∷◌, ◌++◌, length, sym, ap, subst, ◌∙◌, arith}
use Rattle.std.specs.Prelude.{slice_index_or}
use Rattle.std.specs.List.{Contains, sum}
use Rattle.std.proofs.lemmas.List.{length-take, take_all, take_more}
use Rattle.dg_history.specs.declared.node.NodeId.TheVariants.{Root}
use Rattle.dg_plan.specs.IndexGraph.{arcs_of, nodes_of}
use Rattle.dg_plan.specs.Walks.{AreSingles}
use Rattle.dg_path.specs.Search.{label_at}
use Rattle.dg_planner.specs.Order.{bare_ground, node_index_of}
use Rattle.dg_planner.specs.Whole.{PlannerGraph}
use Rattle.dg_planner.proofs.TreeGrowth.{one_weighed, single_light, sum_push, weighed_as}
use Rattle.dg_planner.proofs.OrderPlans.{node_is, node_index_within}
use Rattle.dg_planner.proofs.planner.Planner.singles_of.Goals as goal

pub node_index-at-requires-clause-node : goal.node_index-at-requires-clause-node
node_index-at-requires-clause-node c =
    let g = bare_ground c.self.inside.form.leaves c.self.inside.form.arity c.self.inside.form.memory in
    let i = c.loop-target.target-index in
    let target = slice_index_or c.args.targets.now i Root in
    let vn : Contains (nodes_of g) target = subst (λ (s : PlannerGraph). Contains s.nodes target) (sym c.self.view_is) (c.requires.targets i Root c.loop-target-test.true) in
    node_is g c.self.invariant.low target vn

pub weight_at-single-requires : goal.weight_at-single-requires
weight_at-single-requires c =
    let g = bare_ground c.self.inside.form.leaves c.self.inside.form.arity c.self.inside.form.memory in
    let i = c.loop-target.target-index in
    let target = slice_index_or c.args.targets.now i Root in
    let vn : Contains (nodes_of g) target = subst (λ (s : PlannerGraph). Contains s.nodes target) (sym c.self.view_is) (c.requires.targets i Root c.loop-target-test.true) in
    let p = node_index_within g target vn in
    let e = c.node_index-at.ensures in
    let d = ap length c.deref-in-loop-target.ensures.value in
    let n = c.self.invariant.count in
    omega arith

pub overflow_add-sum : goal.overflow_add-sum
overflow_add-sum c =
    let g = bare_ground c.self.inside.form.leaves c.self.inside.form.arity c.self.inside.form.memory in
    let i = c.loop-target.target-index in
    let target = slice_index_or c.args.targets.now i Root in
    let vn : Contains (nodes_of g) target = subst (λ (s : PlannerGraph). Contains s.nodes target) (sym c.self.view_is) (c.requires.targets i Root c.loop-target-test.true) in
    let near = single_light _ _ _ _ _ _ _ c.self.invariant target vn in
    let now : c.weight_at-single.result ≡ (label_at c.self.inside.costs.items (node_index_of g target)).weight =
    c.weight_at-single.ensures ∙ (λ k. (label_at (c.deref-in-loop-target.ensures.value k) (c.node_index-at.ensures k)).weight) in
    let light = c.loop-target.invariant.0.light in
    let is = c.loop-target.invariant.1 in
    let len = length-take i c.args.targets.now in
    let within : i < length c.args.targets.now = c.loop-target-test.true in
    let few = c.requires.few in
    omega arith

pub loop-target-preserved : goal.loop-target-preserved
loop-target-preserved c =
    let g = bare_ground c.self.inside.form.leaves c.self.inside.form.arity c.self.inside.form.memory in
    let i = c.loop-target.target-index in
    let target = slice_index_or c.args.targets.now i Root in
    let vn : Contains (nodes_of g) target = subst (λ (s : PlannerGraph). Contains s.nodes target) (sym c.self.view_is) (c.requires.targets i Root c.loop-target-test.true) in
    let more = take_more c.args.targets.now i Root c.loop-target-test.true in (
      weighed_as _ _ _ _ _
          more
          (c.in_ok-push.ensures.items ∙ ap (λ w. c.loop-target.weights.items ++ w ∷ []) (c.weight_at-single.ensures ∙ (λ k. (label_at (c.deref-in-loop-target.ensures.value k) (c.node_index-at.ensures k)).weight)))
          (one_weighed g _ _ _ _ _ c.self.inside.costs.items c.self.invariant _ _ c.loop-target.invariant.0 target vn),
      (λ k. c.loop-target.invariant.1 k + c.weight_at-single.result) ∙ sym (sum_push c.loop-target.weights.items c.weight_at-single.result) ∙ sym (ap sum c.in_ok-push.ensures.items),
    )

pub returns-clause-light : goal.returns-clause-light
returns-clause-light c =
    let light = c.loop-target.invariant.0.light in
    let is = c.loop-target.invariant.1 in
    let within = length-take c.loop-target.target-index c.args.targets.now in
    let few = c.requires.few in
    omega arith

pub returns-clause-are : goal.returns-clause-are
returns-clause-are c =
    subst (λ (s : PlannerGraph). AreSingles (arcs_of s.edges) (Root ∷ []) c.args.targets.now c.loop-target.weights.items) c.self.view_is
    (subst (λ ts. AreSingles (arcs_of c.self.inside.edges.items) (Root ∷ []) ts c.loop-target.weights.items) (take_all c.loop-target.target-index c.args.targets.now c.loop-target-test.false) c.loop-target.invariant.0.are)
