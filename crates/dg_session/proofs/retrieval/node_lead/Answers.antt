use Rattle.std.proofs.Common.{◌∷◌, [], List, refl, sym, subst, false}
use Rattle.std.specs.Prelude.{IfOk, IfSome}
use Rattle.std.specs.List.{Contains}
use Rattle.dg_history.specs.declared.node.NodeId.{NodeId}
use Rattle.dg_history.specs.History.{History}
use Rattle.dg_index.specs.OpenedIndex.{Opening, event_total}
use Rattle.dg_index.proofs.OpenedIndexHistories.{large_parameters}
use Rattle.dg_plan.specs.declared.edge.Edge.{Edge}
use Rattle.dg_retrieval.specs.Calls.{LeadsToNode, LeadsToNodeOver, TellsDamage}
use Rattle.dg_retrieval.specs.KeptGraph.{index_ground}
use Rattle.dg_retrieval.specs.NodeSets.{IsIndexOver}
use Rattle.dg_ask.proofs.IndexNodes.{node_listed}
use Rattle.dg_session.proofs.retrieval.node_lead.Goals as goal

pub retrieve_node-requires-clause-node : goal.retrieve_node-requires-clause-node
retrieve_node-requires-clause-node g c κs within =
    let o : Opening = c.args.index.now.opening in
    subst (λ (ns : List NodeId). Contains ns c.args.node) (sym c.in_ok-planner.ensures.nodes)
    (node_listed c.law_nodes_are_listed.ensures o.params (event_total o.batches) (large_parameters o.params.l o.params.k c.facts.ensures.parameters).1
    (index_ground o c.args.cols false []) refl refl c.args.node c.requires.node)

pub returns-clause-done : goal.returns-clause-done
returns-clause-done g c =
    subst (λ (es : List Edge). IfOk c.retrieve_node.result (LeadsToNode c.args.name_count es c.args.index.now.opening c.args.cols c.args.node (g.D.Disk.image c.args.disk.now)))
    c.in_ok-planner.ensures.edges c.retrieve_node.ensures.done

pub returns-clause-over : goal.returns-clause-over
returns-clause-over g c =
    let Over : List Edge → Type 0 = λ es. IfSome (g.D.Disk.image c.args.disk.now) (λ image. (z : History) → IsIndexOver z image c.args.index.now.opening c.args.name_count
    → LeadsToNodeOver z es c.args.cols c.args.node (g.D.Disk.taken c.args.disk.now) (g.D.Disk.taken c.retrieve_node.new.disk) c.retrieve_node.result) in
    subst Over c.in_ok-planner.ensures.edges c.retrieve_node.ensures.over

pub returns-clause-damage : goal.returns-clause-damage
returns-clause-damage g c =
    let Damage : List Edge → Type 0 = λ es. IfSome (g.D.Disk.image c.args.disk.now)
    (λ image. TellsDamage c.args.name_count es c.args.index.now.opening c.args.cols (c.args.node ∷ []) image c.retrieve_node.result) in
    subst Damage c.in_ok-planner.ensures.edges c.retrieve_node.ensures.damage
