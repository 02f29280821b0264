use Rattle.std.proofs.Common.{◌∙◌, ℕ, List, Option, map}
use Rattle.dg_append.proofs.BatchSegmentHistory.{leaf_over}
use Rattle.dg_append.proofs.OlderChildSteps.{all_among}
use Rattle.dg_append.proofs.OlderGroupSets.{some_map}
use Rattle.dg_append.proofs.older_sets.steps_by_sets.Goals as goal
use Rattle.dg_append.specs.declared.next_batch.NextBatch.{NextBatch}
use Rattle.dg_append.specs.OlderChildSteps.{set_among}
use Rattle.dg_build.specs.InteriorDeltas.{steps_to}
use Rattle.dg_graph.specs.declared.element.Element.{Element}
use Rattle.dg_history.specs.declared.node.NodeId.{NodeId}
use Rattle.dg_history.specs.History.{events_of}
use Rattle.dg_index.specs.Hierarchy.{set_of}
use Rattle.dg_index.specs.OpenedIndex.{Opening}

pub returns-clause-over : goal.returns-clause-over
returns-clause-over g c =
    let told : Option (List ℕ) = g.D.Disk.image c.args.disk.now in
    let o : Opening = c.args.from.now.index.now.opening in
    let n : NextBatch = c.args.next.now in
    let graph : List Element = c.args.next.now.current.now.graph in
    some_map told _ _
    (λ image gives z indexed is.
    let over = gives z indexed in
    let f : NodeId → List Element = set_of z.params (events_of z) in
    let leaf : List Element = c.in_ok-leaf.leaf in
    record {
      steps = c.in_ok-steps_between.ensures.steps ∙ (λ i. steps_to (map (set_among c.args.nodes.now ((c.deref.ensures.value ∙ over.sets) i) leaf) c.args.in_time.now) leaf)
          ∙ (λ i. steps_to (all_among f c.args.nodes.now leaf c.args.in_time.now c.requires.in_time i) (leaf_over z image o n graph is leaf c.in_ok-leaf.ensures.is i));
      most = over.most;
      never = tt;
    })
    c.in_ok-sets.ensures.over

pub returns-clause-led : goal.returns-clause-led
returns-clause-led g c =
    let leaf : List Element = c.in_ok-leaf.leaf in
    some_map (g.D.Disk.image c.args.disk.now) _ _
    (λ image led. record {
      sets = c.in_ok-sets.sets.items;
      led = led;
      are = c.in_ok-steps_between.ensures.steps
          ∙ (λ i. steps_to (map (set_among c.args.nodes.now (c.deref.ensures.value i) (c.in_ok-leaf.ensures.back i)) c.args.in_time.now) (c.in_ok-leaf.ensures.back i));
    })
    c.in_ok-sets.ensures.led
