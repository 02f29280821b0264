use Rattle.std.proofs.Common.{◌≡◌, List, [], Option, None, Ok, length, map, sym, ◌∙◌, ap, subst}
use Rattle.dg_build.specs.declared.fault.BuildFault.{BuildFault}
use Rattle.dg_build.specs.declared.fault.BuildFault.TheVariants.{Memory}
use Rattle.dg_graph.specs.declared.event.Event.{Event}
use Rattle.dg_graph.specs.ExactEvents.{AreChangesOf}
use Rattle.dg_history.specs.declared.node.Key.{Key}
use Rattle.dg_index.specs.FileOfHistory.{stored}
use Rattle.dg_index.specs.Hierarchy.{leaves}
use Rattle.dg_index.specs.IndexRecords.{deltas_due, record_among}
use Rattle.dg_verify.specs.declared.due_deltas.DueDeltas.{DueDeltas}
use Rattle.dg_verify.specs.EventTests.{first_unfit}
use Rattle.dg_verify.proofs.EventTestExactness.{are_exact}
use Rattle.dg_verify.proofs.Outcomes.{both_ok, if_err, if_ok, of_ok}
use Rattle.dg_verify.proofs.verification.test_and_make.Goals as goal

pub made_of-requires : goal.made_of-requires
made_of-requires g c =
    let events : List Event = c.as_slice-events.result.now in
    let unfit : Option Key = c.in_ok-unfit.field-0 in
    let is : unfit ≡ first_unfit c.args.names.now c.args.own =
    of_ok c.join-unfit.result.0 unfit (λ (key : Option Key). key ≡ first_unfit c.args.names.now c.args.own) c.in_ok-unfit.was c.join-unfit.ensures.first in
    record {
      memory = λ none.
          if_err c.join-unfit.result.1 (λ (fault : BuildFault). AreChangesOf [] events → fault ≡ Memory) (λ (fault : BuildFault). fault ≡ Memory)
          (λ fault if_exact. if_exact (subst (λ (es : List Event). AreChangesOf [] es) (sym c.as_slice-events.ensures.value)
          (are_exact c.law_changes_of_a_graph_are_exact.ensures c.args.names.now c.args.own c.requires.read (sym is ∙ none))))
          c.join-unfit.ensures.second.fault;
    }

pub returns-clause-keys : goal.returns-clause-keys
returns-clause-keys g c =
    let events : List Event = c.as_slice-events.result.now in
    if_ok c.made_of.result (λ (due : DueDeltas). c.join-unfit.result.1 ≡ Ok due)
    (λ (due : DueDeltas). due.keys.items ≡ deltas_due c.args.params.k 0 (leaves c.args.params (length c.args.own.events.items)))
    (λ due made. of_ok c.join-unfit.result.1 due (λ (due : DueDeltas). due.keys.items ≡ deltas_due c.args.params.k 0 (leaves c.args.params (length events))) made c.join-unfit.ensures.second.keys
    ∙ ap (λ (es : List Event). deltas_due c.args.params.k 0 (leaves c.args.params (length es))) c.as_slice-events.ensures.value)
    c.made_of.ensures.made

pub returns-clause-deltas : goal.returns-clause-deltas
returns-clause-deltas g c =
    let events : List Event = c.as_slice-events.result.now in
    let unfit : Option Key = c.in_ok-unfit.field-0 in
    let is : unfit ≡ first_unfit c.args.names.now c.args.own =
    of_ok c.join-unfit.result.0 unfit (λ (key : Option Key). key ≡ first_unfit c.args.names.now c.args.own) c.in_ok-unfit.was c.join-unfit.ensures.first in
    both_ok c.made_of.result (λ (due : DueDeltas). c.join-unfit.result.1 ≡ Ok due)
    (λ (due : DueDeltas). due.segment.deltas ≡ map (λ k. stored (record_among c.args.params c.args.own.events.items [] k)) due.keys.items) (unfit ≡ None)
    (λ due made none. subst (λ (es : List Event). AreChangesOf [] es → due.segment.deltas ≡ map (λ k. stored (record_among c.args.params es [] k)) due.keys.items) c.as_slice-events.ensures.value
    (of_ok c.join-unfit.result.1 due (λ (due : DueDeltas). AreChangesOf [] events → due.segment.deltas ≡ map (λ k. stored (record_among c.args.params events [] k)) due.keys.items)
    made c.join-unfit.ensures.second.deltas)
    (are_exact c.law_changes_of_a_graph_are_exact.ensures c.args.names.now c.args.own c.requires.read (sym is ∙ none)))
    c.made_of.ensures.made c.made_of.ensures.fit
