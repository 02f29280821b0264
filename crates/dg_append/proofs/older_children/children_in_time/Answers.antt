use Rattle.std.proofs.Common.{◌≡◌, ◌+◌, ◌∙◌, List, subst}
use Rattle.std.specs.Prelude.{IfOk}
use Rattle.dg_append.proofs.older_children.children_in_time.Goals as goal
use Rattle.dg_append.specs.OlderGroups.{leaves_after, leaves_before}
use Rattle.dg_history.specs.declared.node.NodeId.{NodeId}
use Rattle.dg_index.specs.Hierarchy.{leaves}
use Rattle.dg_build.specs.OlderSteps.{older_in_time}

pub returns : goal.returns
returns c =
    let before : c.leaves-before.result ≡ leaves_before c.args.index.now.opening = c.leaves-before.ensures.leaves ∙ (λ i. leaves (c.params-params.ensures i) (c.events_len-events.ensures.events i)) in
    let after : c.leaves.result ≡ leaves_after c.args.index.now.opening c.args.count = c.leaves.ensures.leaves ∙ (λ i. leaves (c.params-params.ensures i) (c.events_len-events.ensures.events i + c.args.count)) in
    subst (λ (all : List NodeId). IfOk c.nodes_in_time.result (λ nodes. nodes.items ≡ all)) (λ i. older_in_time (c.params-params.ensures i).k (before i) (after i)) c.nodes_in_time.ensures
