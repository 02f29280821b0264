use Rattle.std.proofs.Common.{◌≡◌, List, ◌++◌, length, sym, ◌∙◌, subst, rules}
use Rattle.std.specs.List.{Contains}
use Rattle.dg_history.specs.declared.node.NodeId.{NodeId}
use Rattle.dg_index.specs.OpenedIndex.{Opening}
use Rattle.dg_machine.specs.Answer.{potential_lines, step_lines}
use Rattle.dg_ask.proofs.PlanReplies.{reply_is}
use Rattle.dg_ask.proofs.PointNodes.{point_there}
use Rattle.dg_ask.specs.HeldIndex.{point_over}
use Rattle.dg_ask.proofs.plans.plan_reply.Goals as goal

pub plan-requires : goal.plan-requires
plan-requires c = record {
  target =
      let o : Opening = c.args.index.now.opening in
      subst (λ (a : NodeId). Contains c.args.planner.now.nodes a) (sym c.point_of.ensures)
      (subst (λ (ns : List NodeId). Contains ns (point_over o c.args.recent.now c.args.t)) (sym c.requires.nodes)
      (point_there o c.args.recent.now c.args.t c.args.cols (record { parameters = c.facts.ensures.parameters; kept = c.facts.ensures.kept; few = c.facts.ensures.few }) c.requires.there));
}

pub returns : goal.returns
returns c bases edges =
    let count : c.len.result ≡ length c.in_ok-route.route.steps.items = search rules in
    let nodes_are : c.deref.result.now ≡ c.args.planner.now.nodes = c.deref.ensures.value ∙ c.in_ok-nodes.ensures in
    reply_is c.args.index.now.opening c.args.recent.now bases c.args.t c.args.cols c.args.planner.now.edges c.args.planner.now.nodes c.point_of.result
    c.in_ok-route.route.steps.items c.in_ok-route.route.potentials.items c.in_ok-route.route.weight c.len.result c.from_vec.result
    edges c.requires.nodes c.point_of.ensures c.in_ok-route.ensures.plan c.in_ok-route.ensures.weight c.in_ok-route.ensures.potentials
    (c.from_vec.ensures ∙ c.in_ok-lines.ensures ∙ (λ i. step_lines (c.edges.ensures i) c.in_ok-route.route.steps.items ++ potential_lines c.in_ok-route.route.weight (nodes_are i) c.in_ok-route.route.potentials.items))
    count
