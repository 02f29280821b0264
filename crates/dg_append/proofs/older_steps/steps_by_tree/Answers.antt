use Rattle.std.proofs.Common.{◌∷◌, [], ℕ, Result, Ok, Err, List, Option, subst, ◌∙◌, ◌++◌}
use Rattle.std.specs.Prelude.{IfSome}
use Rattle.std.specs.Global.{Vec}
use Rattle.std.specs.List.{sum}
use Rattle.dg_append.proofs.KeptBatchOutcomes.{err_as}
use Rattle.dg_append.proofs.OlderChildSteps.{ended, group_damage}
use Rattle.dg_append.proofs.OlderGroupSets.{some_map}
use Rattle.dg_append.proofs.older_steps.steps_by_tree.Goals as goal
use Rattle.dg_append.specs.OlderGroups.{TellsGroupDamage}
use Rattle.dg_fold.specs.BytesRead.{TakesAtMost}
use Rattle.dg_graph.specs.Composition.{Delta}
use Rattle.dg_history.specs.declared.node.NodeId.TheVariants.{Root}
use Rattle.dg_index.specs.OpenedIndex.{Opening}
use Rattle.dg_plan.specs.declared.edge.Edge.{Edge}
use Rattle.dg_plan.specs.IndexGraph.{arcs_of}
use Rattle.dg_plan.specs.Walks.{AreSingles}
use Rattle.dg_records.specs.declared.fault.RecordFault.{RecordFault}

pub returns-in_err-steps-clause-damage : goal.returns-in_err-steps-clause-damage
returns-in_err-steps-clause-damage g c =
    let told : Option (List ℕ) = g.D.Disk.image c.args.disk.now in
    let o : Opening = c.args.from.now.index.now.opening in
    let f : RecordFault = c.in_err-steps.field-0.0 in
    let failed : Result (Vec Delta) RecordFault = Err f in
    err_as c.from_residual.result f (λ r. IfSome told (λ image. TellsGroupDamage c.args.from.now.name_count o image c.args.nodes.now r)) c.from_residual.ensures
    (some_map told _ _ (λ image t. group_damage c.args.from.now.name_count o c.args.from.now.planner.now.edges c.args.nodes.now image failed c.requires.over.edges c.requires.some c.requires.few t) c.in_err-steps.ensures.damage)

pub returns-clause-over : goal.returns-clause-over
returns-clause-over g c =
    let told : Option (List ℕ) = g.D.Disk.image c.args.disk.now in
    let o : Opening = c.args.from.now.index.now.opening in
    some_map told _ _
    (λ image gives z over.
    let given = gives z over in
    record {
      steps = ended z image o c.args.from.now.name_count over c.requires.last.0 c.args.in_time.now c.requires.last.1 c.in_ok-steps.steps.items _ _ given.steps c.new.ensures c.in_ok-push.ensures.items;
      most = subst (λ (es : List Edge). (singles : List ℕ) → AreSingles (arcs_of es) (Root ∷ []) c.args.nodes.now singles → TakesAtMost (sum singles) (g.D.Disk.taken c.args.disk.now) (g.D.Disk.taken c.node_steps.new.disk)) c.requires.over.edges given.most;
      never = tt;
    })
    c.in_ok-steps.ensures.over

pub returns-clause-damage : goal.returns-clause-damage
returns-clause-damage g c =
    let told : Option (List ℕ) = g.D.Disk.image c.args.disk.now in
    let o : Opening = c.args.from.now.index.now.opening in
    some_map told _ _ (λ image t. group_damage c.args.from.now.name_count o c.args.from.now.planner.now.edges c.args.nodes.now image (Ok c.in_ok-steps.steps) c.requires.over.edges c.requires.some c.requires.few t) c.in_ok-steps.ensures.damage

pub returns-clause-led : goal.returns-clause-led
returns-clause-led g c =
    some_map (g.D.Disk.image c.args.disk.now) _ _ (λ image led. (c.in_ok-steps.steps.items, led, c.in_ok-push.ensures.items ∙ (λ i. c.in_ok-steps.steps.items ++ c.new.ensures i ∷ []))) c.in_ok-steps.ensures.led
