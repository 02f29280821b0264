use Rattle.std.proofs.Common.{◌≡◌, [], ◌+◌, ◌≤◌, ◌∷◌, length, refl, sym, ◌∙◌, ap, subst, arith}
use Rattle.dg_ask.proofs.HeldIndexHandles.{node_there}
use Rattle.dg_ask.specs.HeldIndex.{HasNode}
use Rattle.dg_graph.specs.Composition.{applied}
use Rattle.dg_graph.specs.Elements.{shown}
use Rattle.dg_handles.specs.Handles.{with_messages}
use Rattle.dg_machine.specs.declared.command.Command.TheVariants as command
use Rattle.dg_machine.specs.declared.limits.TheConstants.{HANDLE_MAX, LIVE_HANDLES_MAX}
use Rattle.dg_machine.specs.declared.reply.Head.TheVariants as head
use Rattle.dg_machine.specs.declared.reply.Refusal.TheVariants as refusal
use Rattle.dg_machine.specs.declared.reply.Reply.{Reply}
use Rattle.dg_machine.specs.declared.reply.Reply.TheVariants as replied
use Rattle.dg_machine.specs.declared.stands.Shown.TheVariants.{Base}
use Rattle.dg_machine.specs.Answer.{headed}
use Rattle.dg_machine.specs.Needs.{needs}
use Rattle.dg_session.specs.SessionState.{SessionState}
use Rattle.dg_batch.specs.declared.halt.Halt.TheVariants as halt
use Rattle.dg_session.specs.Damage.{DamageIn, DamageIs, MeetsNone, node_readings, reads_for}
use Rattle.dg_batch.specs.Halt.{retrieval_halt}
use Rattle.dg_session.specs.Parts.{Parts}
use Rattle.dg_session.specs.Reads.{ReadsIn, with_new_handles, Reads}
use Rattle.dg_session.specs.Session.{ComesTo}
use Rattle.dg_session.proofs.DamageStep.{damage_in, tells_no_damage, none_met}
use Rattle.dg_session.proofs.SessionNodeStep.{found_free, node_answers, node_fails, node_held_of, node_most_of, node_never_of, node_taken_of}
use Rattle.dg_session.proofs.SessionRetrievals.{reads_failing, retrieval_failed, reads_exactly, reads_unasked}
use Rattle.dg_session.proofs.SessionSteps.{handed_out, lacking_denies, refused_denies, refused_not_read}
use Rattle.dg_session.proofs.session.Session.materialise.Goals as goal

pub add_set-requires-clause-node : goal.add_set-requires-clause-node
add_set-requires-clause-node g c =
    let p : Parts = c.args.self.now.parts in
    let free = found_free p c.args.node (sym c.refused.ensures ∙ c.in_default.is) in
    subst (λ (x : SessionState). HasNode x.parts.index c.args.node) (sym c.lead_to_node.ensures.same) (node_there p.index c.args.node free.0 free.1)

pub add_set-requires-clause-room : goal.add_set-requires-clause-room
add_set-requires-clause-room g c =
    subst (λ (x : SessionState). length x.parts.table + 1 ≤ LIVE_HANDLES_MAX) (sym c.lead_to_node.ensures.same) (found_free c.args.self.now.parts c.args.node (sym c.refused.ensures ∙ c.in_default.is)).2

pub add_set-requires-clause-numbers : goal.add_set-requires-clause-numbers
add_set-requires-clause-numbers g c =
    subst (λ (x : SessionState). x.parts.next + 1 ≤ HANDLE_MAX + 1) (sym c.lead_to_node.ensures.same) (found_free c.args.self.now.parts c.args.node (sym c.refused.ensures ∙ c.in_default.is)).3

pub returns-in-Some-clause-comes : goal.returns-in-Some-clause-comes
returns-in-Some-clause-comes g c =
    refused_denies (command.Materialise c.args.node c.args.cols) [] c.args.self.now.parts c.args.self.now.parts (g.D.Disk.image c.args.disk.now) (g.D.Disk.image c.args.disk.now) c.in-Some.refusal refl refl (sym c.refused.ensures ∙ c.in-Some.is)

pub returns-in_err-delta-clause-comes : goal.returns-in_err-delta-clause-comes
returns-in_err-delta-clause-comes g c =
    handed_out c.from_residual.result (retrieval_halt c.in_err-delta.field-0.0)
    (ComesTo (command.Materialise c.args.node c.args.cols) [] c.args.self.now.parts (g.D.Disk.image c.args.disk.now) c.lead_to_node.new.self.parts (g.D.Disk.image c.lead_to_node.new.disk)) c.from_residual.ensures
    (retrieval_failed (command.Materialise c.args.node c.args.cols) c.args.self.now.parts c.lead_to_node.new.self.parts (g.D.Disk.image c.args.disk.now) (g.D.Disk.image c.lead_to_node.new.disk) c.in_err-delta.field-0.0 refl refl (λ m. refl) (sym c.refused.ensures ∙ c.in_default.is)
    (ap (λ (x : SessionState). x.parts) c.lead_to_node.ensures.same) c.lead_to_node.ensures.disk.same_image (node_never_of c.args.self.now.parts c.args.node c.args.cols (g.D.Disk.image c.args.disk.now) (g.D.Disk.taken c.args.disk.now) (g.D.Disk.taken c.lead_to_node.new.disk) c.in_err-delta.field-0.0 c.in_err-delta.ensures.over))

pub returns-in_err-add_set-clause-comes : goal.returns-in_err-add_set-clause-comes
returns-in_err-add_set-clause-comes g c =
    handed_out c.from_residual-in_err-add_set.result (halt.Refusal refusal.OutOfMemory)
    (ComesTo (command.Materialise c.args.node c.args.cols) [] c.args.self.now.parts (g.D.Disk.image c.args.disk.now) c.add_set.new.self.parts (g.D.Disk.image c.lead_to_node.new.disk)) c.from_residual-in_err-add_set.ensures
    (lacking_denies (command.Materialise c.args.node c.args.cols) [] c.args.self.now.parts c.add_set.new.self.parts (g.D.Disk.image c.args.disk.now) (g.D.Disk.image c.lead_to_node.new.disk)
    (c.in_err-add_set.ensures.err ∙ (ap (λ (x : SessionState). x.parts) c.lead_to_node.ensures.same)) c.lead_to_node.ensures.disk.same_image refl (sym c.refused.ensures ∙ c.in_default.is))

pub returns-clause-comes : goal.returns-clause-comes
returns-clause-comes g c =
    let p : Parts = c.args.self.now.parts in
    let r = c.in_ok-delta.field-0 in
    let cols = c.args.cols in
    let same : c.lead_to_node.new.self.parts ≡ p = (ap (λ (x : SessionState). x.parts) c.lead_to_node.ensures.same) in
    let number : c.next-handle.result ≡ p.next = c.next-handle.ensures.next ∙ ap (λ (x : SessionState). x.parts.next) (c.self.view_is ∙ c.lead_to_node.ensures.same) in
    node_answers p c.add_set.new.self.parts c.args.node cols (g.D.Disk.image c.args.disk.now) (g.D.Disk.image c.lead_to_node.new.disk) r.weight (shown (applied r.delta []) (with_messages cols)) c.headed.result
    (sym c.refused.ensures ∙ c.in_default.is) c.lead_to_node.ensures.disk.same_image (node_held_of c.args.self.now.parts c.args.node c.args.cols (g.D.Disk.image c.args.disk.now) (g.D.Disk.taken c.args.disk.now) (g.D.Disk.taken c.lead_to_node.new.disk) c.in_ok-delta.field-0 c.in_ok-delta.ensures.over)
    (c.in_ok-add_set.ensures.added ∙ (λ i. with_new_handles (same i) (record { what = Base c.args.node; cols = cols } ∷ []) (shown (applied r.delta []) (with_messages cols) ∷ [])))
    (c.headed.ensures ∙ ap (λ n. headed (head.Materialised n r.weight)) number)

pub returns-in-Some-clause-file : goal.returns-in-Some-clause-file
returns-in-Some-clause-file g c = record {
  damaged =
      tells_no_damage (command.Materialise c.args.node c.args.cols) c.args.self.now.parts (g.D.Disk.image c.args.disk.now) c.in-Some.refusal
      (refused_not_read c.args.self.now.parts 0 (needs (command.Materialise c.args.node c.args.cols)) c.in-Some.refusal (sym c.refused.ensures ∙ c.in-Some.is));
  undamaged = tt;
  reads = reads_unasked (command.Materialise c.args.node c.args.cols) c.args.self.now.parts (g.D.Disk.image c.args.disk.now) c.in-Some.refusal (g.D.Disk.taken c.args.disk.now) (λ m got plan planned. omega arith);
}

pub returns-in_err-delta-clause-file : goal.returns-in_err-delta-clause-file
returns-in_err-delta-clause-file g c = record {
  damaged =
      handed_out c.from_residual.result (retrieval_halt c.in_err-delta.field-0.0)
      (λ r. DamageIn (command.Materialise c.args.node c.args.cols) c.args.self.now.parts (g.D.Disk.image c.args.disk.now) r) c.from_residual.ensures
      (damage_in (command.Materialise c.args.node c.args.cols) (node_readings c.args.node c.args.cols) c.args.self.now.parts (g.D.Disk.image c.args.disk.now) c.in_err-delta.field-0.0 refl c.in_err-delta.ensures.damage);
  undamaged = none_met c.from_residual.result (MeetsNone (reads_for (command.Materialise c.args.node c.args.cols)) c.args.self.now.parts (g.D.Disk.image c.args.disk.now)) c.from_residual.ensures.0;
  reads =
      handed_out c.from_residual.result (retrieval_halt c.in_err-delta.field-0.0)
      (λ r. ReadsIn (command.Materialise c.args.node c.args.cols) c.args.self.now.parts (g.D.Disk.image c.args.disk.now) r (g.D.Disk.taken c.args.disk.now) (g.D.Disk.taken c.lead_to_node.new.disk)) c.from_residual.ensures
      (reads_failing (command.Materialise c.args.node c.args.cols) c.args.self.now.parts (g.D.Disk.image c.args.disk.now) c.in_err-delta.field-0.0 (g.D.Disk.taken c.args.disk.now) (g.D.Disk.taken c.lead_to_node.new.disk)
      (λ h refuses late. node_fails c.args.self.now.parts c.args.node c.args.cols (g.D.Disk.image c.args.disk.now) h (g.D.Disk.taken c.args.disk.now) (g.D.Disk.taken c.lead_to_node.new.disk) refuses late (sym c.refused.ensures ∙ c.in_default.is) (node_most_of c.args.self.now.parts c.args.node c.args.cols (g.D.Disk.image c.args.disk.now) (g.D.Disk.taken c.args.disk.now) (g.D.Disk.taken c.lead_to_node.new.disk) c.lead_to_node.result c.lead_to_node.ensures.over)));
}

pub returns-in_err-add_set-clause-file : goal.returns-in_err-add_set-clause-file
returns-in_err-add_set-clause-file g c = record {
  damaged =
      handed_out c.from_residual-in_err-add_set.result (halt.Refusal refusal.OutOfMemory)
      (λ r. DamageIn (command.Materialise c.args.node c.args.cols) c.args.self.now.parts (g.D.Disk.image c.args.disk.now) r) c.from_residual-in_err-add_set.ensures tt;
  undamaged = none_met c.from_residual-in_err-add_set.result (MeetsNone (reads_for (command.Materialise c.args.node c.args.cols)) c.args.self.now.parts (g.D.Disk.image c.args.disk.now)) c.from_residual-in_err-add_set.ensures.0;
  reads =
      handed_out c.from_residual-in_err-add_set.result (halt.Refusal refusal.OutOfMemory)
      (λ r. ReadsIn (command.Materialise c.args.node c.args.cols) c.args.self.now.parts (g.D.Disk.image c.args.disk.now) r (g.D.Disk.taken c.args.disk.now) (g.D.Disk.taken c.lead_to_node.new.disk)) c.from_residual-in_err-add_set.ensures
      (node_fails c.args.self.now.parts c.args.node c.args.cols (g.D.Disk.image c.args.disk.now) (replied.Refused refusal.OutOfMemory) (g.D.Disk.taken c.args.disk.now) (g.D.Disk.taken c.lead_to_node.new.disk) refl refl (sym c.refused.ensures ∙ c.in_default.is) (node_most_of c.args.self.now.parts c.args.node c.args.cols (g.D.Disk.image c.args.disk.now) (g.D.Disk.taken c.args.disk.now) (g.D.Disk.taken c.lead_to_node.new.disk) c.lead_to_node.result c.lead_to_node.ensures.over));
}

pub returns-clause-file : goal.returns-clause-file
returns-clause-file g c = record {
  damaged = subst (DamageIs (command.Materialise c.args.node c.args.cols) c.args.self.now.parts (g.D.Disk.image c.args.disk.now)) (sym c.headed.ensures) tt;
  undamaged = c.in_ok-delta.ensures.damage;
  reads =
      subst (λ (x : Reply). Reads (command.Materialise c.args.node c.args.cols) c.args.self.now.parts (g.D.Disk.image c.args.disk.now) x (g.D.Disk.taken c.args.disk.now) (g.D.Disk.taken c.lead_to_node.new.disk)) (sym c.headed.ensures)
      (reads_exactly (command.Materialise c.args.node c.args.cols) c.args.self.now.parts (g.D.Disk.image c.args.disk.now) _ (g.D.Disk.taken c.args.disk.now) (g.D.Disk.taken c.lead_to_node.new.disk) refl refl (λ m got takes. takes) (node_taken_of c.args.self.now.parts c.args.node c.args.cols (g.D.Disk.image c.args.disk.now) (g.D.Disk.taken c.args.disk.now) (g.D.Disk.taken c.lead_to_node.new.disk) c.in_ok-delta.field-0 c.in_ok-delta.ensures.over));
}
