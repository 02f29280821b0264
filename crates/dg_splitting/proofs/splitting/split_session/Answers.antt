use Rattle.std.proofs.Common.{◌≡◌, List, ◌∙◌, sym, arith}
use Rattle.dg_disk.proofs.FrameLemmas.{reads_none}
use Rattle.dg_start.proofs.EventSourceOutcomes.{err_is}
use Rattle.dg_splitting.specs.declared.status.SplitStatus.{SplitStatus}
use Rattle.dg_splitting.specs.declared.status.SplitStatus.TheVariants as status
use Rattle.dg_splitting.specs.Splits.{Splits}
use Rattle.dg_splitting.specs.Outs.{AreOnDevice}
use Rattle.dg_splitting.specs.Written.{HoldParts, LeavesParts, StopsParts}
use Rattle.dg_splitting.proofs.Failures.{err_both, ok_both}
use Rattle.dg_splitting.proofs.SplitEnds.{all_written, asked_none, asked_used, blank_on, hold_same, leave_same, no_params, not_asked, not_read, not_written, stop_same, syncs_none, used_then, whole_of}
use Rattle.dg_splitting.proofs.splitting.split_session.Goals as goal

pub returns-in_err-params-clause-ended : goal.returns-in_err-params-clause-ended
returns-in_err-params-clause-ended g c =
    let s : SplitStatus = c.in_err-params.field-0.0 in
    err_is c.from_residual.result s (λ (s : SplitStatus). Splits g.D.Disk c.args.limits.file_bytes s c.args.disk.now c.args.disk.now c.args.outs.now c.args.outs.now) c.from_residual.ensures
    (no_params g.D.Disk c.args.limits c.args.limits.file_bytes c.args.disk.now c.args.disk.now c.args.session.now.parts
    (record { syncs = syncs_none g.D.Disk c.args.disk.now; held = c.requires.held; stands = c.requires.stands; checked = c.requires.checked }) s c.args.disk.now c.args.outs.now c.in_err-params.ensures.lacks)

pub returns-in_err-ask_all-clause-ended : goal.returns-in_err-ask_all-clause-ended
returns-in_err-ask_all-clause-ended g c =
    let s : SplitStatus = c.in_err-ask_all.field-0.0 in
    err_is c.from_residual-in_err-ask_all.result s (λ (s : SplitStatus). Splits g.D.Disk c.args.limits.file_bytes s c.args.disk.now c.args.disk.now c.args.outs.now c.ask_all.new.outs) c.from_residual-in_err-ask_all.ensures
    (not_asked g.D.Disk c.args.limits c.args.limits.file_bytes c.args.disk.now c.args.disk.now c.args.session.now.parts
    (record { syncs = syncs_none g.D.Disk c.args.disk.now; held = c.requires.held; stands = c.requires.stands; checked = c.requires.checked })
    c.in_ok-params.ensures.params.0 c.in_ok-params.ensures.params.1 s c.args.disk.now c.args.outs.now c.ask_all.new.outs c.ask_all.ensures.asked c.in_err-ask_all.ensures.stops)

pub returns-in_err-events-clause-ended : goal.returns-in_err-events-clause-ended
returns-in_err-events-clause-ended g c =
    let s : SplitStatus = c.in_err-events.field-0.0 in
    err_is c.from_residual-in_err-events.result s (λ (s : SplitStatus). Splits g.D.Disk c.args.limits.file_bytes s c.args.disk.now c.read_events.new.disk c.args.outs.now c.ask_all.new.outs) c.from_residual-in_err-events.ensures
    (not_read g.D.Disk c.args.limits c.args.limits.file_bytes c.args.disk.now c.args.disk.now c.args.session.now.parts
    (record { syncs = syncs_none g.D.Disk c.args.disk.now; held = c.requires.held; stands = c.requires.stands; checked = c.requires.checked })
    c.in_ok-params.ensures.params.0 c.in_ok-params.ensures.params.1 s c.read_events.new.disk c.args.outs.now c.ask_all.new.outs c.ask_all.ensures.asked c.in_err-events.ensures.stops)

pub returns-in_err-ask_all-clause-outs : goal.returns-in_err-ask_all-clause-outs
returns-in_err-ask_all-clause-outs g c = asked_used g.D.Disk c.args.outs.now c.ask_all.new.outs c.ask_all.ensures.asked

pub returns-in_err-events-clause-outs : goal.returns-in_err-events-clause-outs
returns-in_err-events-clause-outs g c = asked_used g.D.Disk c.args.outs.now c.ask_all.new.outs c.ask_all.ensures.asked

pub write_parts-requires-clause-whole : goal.write_parts-requires-clause-whole
write_parts-requires-clause-whole g c =
    whole_of c.in_ok-params.params c.names.result.now c.args.session.now.parts.names c.in_ok-events.events.items c.deref.result.now c.in_ok-params.ensures.ranges c.in_ok-events.ensures.whole c.names.ensures c.deref.ensures.value

pub write_parts-requires-clause-blank : goal.write_parts-requires-clause-blank
write_parts-requires-clause-blank g c = blank_on g.D.Disk c.args.outs.now c.ask_all.new.outs (omega arith) c.ask_all.ensures.asked c.in_ok-ask_all.ensures.blank

pub returns-clause-done : goal.returns-clause-done
returns-clause-done g c =
    let o = c.in_ok-params.ensures.params.0 in
    ok_both c.write_parts.result _ _ _ c.write_parts.ensures.written c.write_parts.ensures.settled
    (λ holds settled. all_written g.D.Disk c.args.limits c.args.limits.file_bytes c.args.disk.now c.args.disk.now c.args.session.now.parts
    (record { syncs = syncs_none g.D.Disk c.args.disk.now; held = c.requires.held; stands = c.requires.stands; checked = c.requires.checked })
    o c.in_ok-params.ensures.params.1 c.in_ok-events.events.items c.in_ok-events.ensures.own c.law_parts_are_legal.ensures
    c.args.outs.now c.ask_all.new.outs c.write_parts.new.outs (omega arith) c.ask_all.ensures.asked c.in_ok-ask_all.ensures.blank c.read_events.new.disk (omega arith)
    (hold_same g.D.Disk c.in_ok-params.params o.params c.in_ok-params.ensures.params.2 c.names.result.now c.args.session.now.parts.names c.names.ensures c.deref.result.now c.in_ok-events.events.items c.deref.ensures.value
    c.args.limits.file_bytes c.write_parts.new.outs holds) settled)

pub returns-clause-ended : goal.returns-clause-ended
returns-clause-ended g c =
    let o = c.in_ok-params.ensures.params.0 in
    err_both c.write_parts.result _ _ _ c.write_parts.ensures.stops c.write_parts.ensures.fronts
    (λ s stops leaves. not_written g.D.Disk c.args.limits c.args.limits.file_bytes c.args.disk.now c.args.disk.now c.args.session.now.parts
    (record { syncs = syncs_none g.D.Disk c.args.disk.now; held = c.requires.held; stands = c.requires.stands; checked = c.requires.checked })
    o c.in_ok-params.ensures.params.1 c.in_ok-events.events.items c.in_ok-events.ensures.own c.law_parts_are_legal.ensures
    c.args.outs.now c.ask_all.new.outs c.write_parts.new.outs (omega arith) c.ask_all.ensures.asked c.in_ok-ask_all.ensures.blank s c.read_events.new.disk
    (stop_same g.D.Disk c.in_ok-params.params o.params c.in_ok-params.ensures.params.2 c.names.result.now c.args.session.now.parts.names c.names.ensures c.deref.result.now c.in_ok-events.events.items c.deref.ensures.value
    c.args.limits.file_bytes s c.ask_all.new.outs c.write_parts.new.outs stops)
    (leave_same g.D.Disk c.in_ok-params.params o.params c.in_ok-params.ensures.params.2 c.names.result.now c.args.session.now.parts.names c.names.ensures c.deref.result.now c.in_ok-events.events.items c.deref.ensures.value
    s c.ask_all.new.outs c.write_parts.new.outs leaves))

pub returns-clause-outs : goal.returns-clause-outs
returns-clause-outs g c = used_then g.D.Disk c.args.outs.now c.ask_all.new.outs c.write_parts.new.outs (omega arith) c.ask_all.ensures.asked c.write_parts.ensures.used
