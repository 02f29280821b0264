use Rattle.std.proofs.Common.{◌≡◌, ◌+◌, [], length, refl, sym, ◌∙◌, ap}
use Rattle.dg_build.specs.declared.fault.BuildFault.{BuildFault}
use Rattle.dg_build.specs.declared.fault.BuildFault.TheVariants.{Memory}
use Rattle.dg_graph.specs.ExactEvents.{AreChangesOf}
use Rattle.dg_index.specs.FileOfHistory.{Segment}
use Rattle.dg_index.specs.Hierarchy.{leaves}
use Rattle.dg_start.proofs.EventSourceOutcomes.{err_is}
use Rattle.dg_verify.proofs.DeltaSegments.{deltas_made, no_older_steps, none_in_time, none_recent}
use Rattle.dg_verify.proofs.due_deltas.due_deltas.Goals as goal

pub build-requires-clause-older : goal.build-requires-clause-older
build-requires-clause-older c = sym (ap length (none_in_time c.args.params (leaves c.args.params (0 + length c.args.events.now)) c.requires.parameters))

pub returns-in_err-segment-clause-fault : goal.returns-in_err-segment-clause-fault
returns-in_err-segment-clause-fault c =
    err_is c.from_residual-in_err-segment.result c.in_err-segment.field-0.0 (λ (fault : BuildFault). AreChangesOf [] c.args.events.now → fault ≡ Memory)
    c.from_residual-in_err-segment.ensures
    (λ changes. c.in_err-segment.ensures.fault [] refl (none_recent c.args.params) (λ lt. c.new.ensures) changes
    (no_older_steps c.args.params (leaves c.args.params (0 + length c.args.events.now)) c.requires.parameters))

pub returns-clause-deltas : goal.returns-clause-deltas
returns-clause-deltas c changes =
    deltas_made c.args.params c.args.events.now c.new-bare.result.names c.in_ok-segment.segment c.in_ok-keys.keys.items
    (c.in_ok-segment.ensures.is [] refl (none_recent c.args.params) (λ lt. c.new.ensures) changes
    (no_older_steps c.args.params (leaves c.args.params (0 + length c.args.events.now)) c.requires.parameters)
    (ap (λ (s : Segment). s.events) c.new-bare.ensures) (ap (λ (s : Segment). s.first) c.new-bare.ensures ∙ c.first_time.ensures) (ap (λ (s : Segment). s.last) c.new-bare.ensures ∙ c.last_time.ensures))
    c.in_ok-keys.ensures
