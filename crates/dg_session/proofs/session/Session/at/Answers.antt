use Rattle.std.proofs.Common.{◌≡◌, [], ◌∷◌, map, refl, sym, ◌∙◌, ap, subst, arith}
use Rattle.dg_machine.specs.declared.command.Command.TheVariants as command
use Rattle.dg_machine.specs.declared.reply.Head.TheVariants as head
use Rattle.dg_machine.specs.declared.reply.Refusal.TheVariants as refusal
use Rattle.dg_machine.specs.declared.reply.Reply.{Reply}
use Rattle.dg_machine.specs.declared.reply.Reply.TheVariants as replied
use Rattle.dg_handles.specs.Handles.{overlays_on}
use Rattle.dg_machine.specs.Answer.{headed}
use Rattle.dg_machine.specs.Needs.{needs}
use Rattle.dg_retrieval.specs.Beginnings.{leads_in, led_to}
use Rattle.dg_session.specs.SessionState.{SessionState}
use Rattle.dg_batch.specs.declared.halt.Halt.TheVariants as halt
use Rattle.dg_session.specs.Damage.{DamageIn, DamageIs, MeetsNone, graph_readings, reads_for}
use Rattle.dg_batch.specs.Halt.{retrieval_halt}
use Rattle.dg_session.specs.Parts.{Parts}
use Rattle.dg_session.specs.Reads.{ReadsIn, bases_of, listed_by, with_new_handles, Reads}
use Rattle.dg_session.specs.Session.{ComesTo}
use Rattle.dg_session.proofs.SessionInstantStep.{at_answers, at_fails}
use Rattle.dg_session.proofs.SessionLeads.{most_of, never_of, retrieved_of, taken_of}
use Rattle.dg_session.proofs.DamageStep.{damage_in, tells_no_damage, none_met}
use Rattle.dg_session.proofs.SessionRetrievals.{reads_failing, retrieval_failed, reads_exactly, reads_unasked}
use Rattle.dg_session.proofs.SessionSteps.{handed_out, lacking_denies, refused_denies, refused_not_read}
use Rattle.dg_session.proofs.session.Session.at.Goals as goal

pub returns-in-Some-clause-comes : goal.returns-in-Some-clause-comes
returns-in-Some-clause-comes g c =
    refused_denies (command.At c.args.t c.args.cols) [] c.args.self.now.parts c.args.self.now.parts (g.D.Disk.image c.args.disk.now) (g.D.Disk.image c.args.disk.now) c.in-Some.refusal refl refl
    (sym c.refused.ensures ∙ c.in-Some.is)

pub returns-in_err-leads-clause-comes : goal.returns-in_err-leads-clause-comes
returns-in_err-leads-clause-comes g c =
    handed_out c.from_residual.result (retrieval_halt c.in_err-leads.field-0.0)
    (ComesTo (command.At c.args.t c.args.cols) [] c.args.self.now.parts (g.D.Disk.image c.args.disk.now) c.retrieve.new.self.parts (g.D.Disk.image c.retrieve.new.disk)) c.from_residual.ensures
    (retrieval_failed (command.At c.args.t c.args.cols) c.args.self.now.parts c.retrieve.new.self.parts (g.D.Disk.image c.args.disk.now) (g.D.Disk.image c.retrieve.new.disk) c.in_err-leads.field-0.0 refl refl (λ m. refl)
    (sym c.refused.ensures ∙ c.in_default.is) (ap (λ (x : SessionState). x.parts) c.retrieve.ensures.same) c.retrieve.ensures.disk.same_image (never_of c.args.self.now.parts (c.args.t ∷ []) c.args.cols (g.D.Disk.image c.args.disk.now) (g.D.Disk.taken c.args.disk.now) (g.D.Disk.taken c.retrieve.new.disk) c.in_err-leads.field-0.0 c.in_err-leads.ensures.over))

pub returns-in_err-add_handles-clause-comes : goal.returns-in_err-add_handles-clause-comes
returns-in_err-add_handles-clause-comes g c =
    handed_out c.from_residual-in_err-add_handles.result (halt.Refusal refusal.OutOfMemory)
    (ComesTo (command.At c.args.t c.args.cols) [] c.args.self.now.parts (g.D.Disk.image c.args.disk.now) c.add_handles.new.self.parts (g.D.Disk.image c.retrieve.new.disk)) c.from_residual-in_err-add_handles.ensures
    (lacking_denies (command.At c.args.t c.args.cols) [] c.args.self.now.parts c.add_handles.new.self.parts (g.D.Disk.image c.args.disk.now) (g.D.Disk.image c.retrieve.new.disk)
    (c.in_err-add_handles.ensures.err ∙ (ap (λ (x : SessionState). x.parts) c.retrieve.ensures.same)) c.retrieve.ensures.disk.same_image refl (sym c.refused.ensures ∙ c.in_default.is))

pub returns-clause-comes : goal.returns-clause-comes
returns-clause-comes g c =
    let p : Parts = c.args.self.now.parts in
    let r = c.in_ok-leads.field-0 in
    let cols = c.args.cols in
    let times = c.args.t ∷ [] in
    let same : c.retrieve.new.self.parts ≡ p = ap (λ (x : SessionState). x.parts) c.retrieve.ensures.same in
    let number : c.next-handle.result ≡ p.next = c.next-handle.ensures.next ∙ ap (λ (x : SessionState). x.parts.next) (c.self.view_is ∙ c.retrieve.ensures.same) in
    at_answers p c.add_handles.new.self.parts c.args.t cols (g.D.Disk.image c.args.disk.now) (g.D.Disk.image c.retrieve.new.disk) r.weight r.singles.items (bases_of (leads_in r.leads)) (map (led_to p.graph (listed_by p) cols) (leads_in r.leads)) c.headed.result
    (sym c.refused.ensures ∙ c.in_default.is) c.retrieve.ensures.disk.same_image (retrieved_of c.args.self.now.parts (c.args.t ∷ []) c.args.cols (g.D.Disk.image c.args.disk.now) (g.D.Disk.taken c.args.disk.now) (g.D.Disk.taken c.retrieve.new.disk) c.in_ok-leads.field-0 c.in_ok-leads.ensures.over)
    (c.in_ok-add_handles.ensures.added ∙ (λ i. with_new_handles (same i) (overlays_on cols times (bases_of (leads_in r.leads))) (map (led_to (same i).graph (listed_by (same i)) cols) (leads_in r.leads))))
    (c.headed.ensures ∙ ap (λ n. headed (head.At n r.weight)) number)

pub returns-in-Some-clause-file : goal.returns-in-Some-clause-file
returns-in-Some-clause-file g c = record {
  damaged =
      tells_no_damage (command.At c.args.t c.args.cols) c.args.self.now.parts (g.D.Disk.image c.args.disk.now) c.in-Some.refusal
      (refused_not_read c.args.self.now.parts 0 (needs (command.At c.args.t c.args.cols)) c.in-Some.refusal (sym c.refused.ensures ∙ c.in-Some.is));
  undamaged = tt;
  reads = reads_unasked (command.At c.args.t c.args.cols) c.args.self.now.parts (g.D.Disk.image c.args.disk.now) c.in-Some.refusal (g.D.Disk.taken c.args.disk.now) (λ m got plan planned. omega arith);
}

pub returns-in_err-leads-clause-file : goal.returns-in_err-leads-clause-file
returns-in_err-leads-clause-file g c = record {
  damaged =
      handed_out c.from_residual.result (retrieval_halt c.in_err-leads.field-0.0)
      (λ r. DamageIn (command.At c.args.t c.args.cols) c.args.self.now.parts (g.D.Disk.image c.args.disk.now) r) c.from_residual.ensures
      (damage_in (command.At c.args.t c.args.cols) (graph_readings (c.args.t ∷ []) c.args.cols) c.args.self.now.parts (g.D.Disk.image c.args.disk.now) c.in_err-leads.field-0.0 refl c.in_err-leads.ensures.damage);
  undamaged = none_met c.from_residual.result (MeetsNone (reads_for (command.At c.args.t c.args.cols)) c.args.self.now.parts (g.D.Disk.image c.args.disk.now)) c.from_residual.ensures.0;
  reads =
      handed_out c.from_residual.result (retrieval_halt c.in_err-leads.field-0.0)
      (λ r. ReadsIn (command.At c.args.t c.args.cols) c.args.self.now.parts (g.D.Disk.image c.args.disk.now) r (g.D.Disk.taken c.args.disk.now) (g.D.Disk.taken c.retrieve.new.disk)) c.from_residual.ensures
      (reads_failing (command.At c.args.t c.args.cols) c.args.self.now.parts (g.D.Disk.image c.args.disk.now) c.in_err-leads.field-0.0 (g.D.Disk.taken c.args.disk.now) (g.D.Disk.taken c.retrieve.new.disk)
      (λ h refuses late. at_fails c.args.self.now.parts c.args.t c.args.cols (g.D.Disk.image c.args.disk.now) h (g.D.Disk.taken c.args.disk.now) (g.D.Disk.taken c.retrieve.new.disk) refuses late
      (sym c.refused.ensures ∙ c.in_default.is) (most_of c.args.self.now.parts (c.args.t ∷ []) c.args.cols (g.D.Disk.image c.args.disk.now) (g.D.Disk.taken c.args.disk.now) (g.D.Disk.taken c.retrieve.new.disk) c.retrieve.result c.retrieve.ensures.over)));
}

pub returns-in_err-add_handles-clause-file : goal.returns-in_err-add_handles-clause-file
returns-in_err-add_handles-clause-file g c = record {
  damaged =
      handed_out c.from_residual-in_err-add_handles.result (halt.Refusal refusal.OutOfMemory)
      (λ r. DamageIn (command.At c.args.t c.args.cols) c.args.self.now.parts (g.D.Disk.image c.args.disk.now) r) c.from_residual-in_err-add_handles.ensures tt;
  undamaged = none_met c.from_residual-in_err-add_handles.result (MeetsNone (reads_for (command.At c.args.t c.args.cols)) c.args.self.now.parts (g.D.Disk.image c.args.disk.now)) c.from_residual-in_err-add_handles.ensures.0;
  reads =
      handed_out c.from_residual-in_err-add_handles.result (halt.Refusal refusal.OutOfMemory)
      (λ r. ReadsIn (command.At c.args.t c.args.cols) c.args.self.now.parts (g.D.Disk.image c.args.disk.now) r (g.D.Disk.taken c.args.disk.now) (g.D.Disk.taken c.retrieve.new.disk)) c.from_residual-in_err-add_handles.ensures
      (at_fails c.args.self.now.parts c.args.t c.args.cols (g.D.Disk.image c.args.disk.now) (replied.Refused refusal.OutOfMemory) (g.D.Disk.taken c.args.disk.now) (g.D.Disk.taken c.retrieve.new.disk) refl refl
      (sym c.refused.ensures ∙ c.in_default.is) (most_of c.args.self.now.parts (c.args.t ∷ []) c.args.cols (g.D.Disk.image c.args.disk.now) (g.D.Disk.taken c.args.disk.now) (g.D.Disk.taken c.retrieve.new.disk) c.retrieve.result c.retrieve.ensures.over));
}

pub returns-clause-file : goal.returns-clause-file
returns-clause-file g c = record {
  damaged = subst (DamageIs (command.At c.args.t c.args.cols) c.args.self.now.parts (g.D.Disk.image c.args.disk.now)) (sym c.headed.ensures) tt;
  undamaged = c.in_ok-leads.ensures.damage;
  reads =
      subst (λ (x : Reply). Reads (command.At c.args.t c.args.cols) c.args.self.now.parts (g.D.Disk.image c.args.disk.now) x (g.D.Disk.taken c.args.disk.now) (g.D.Disk.taken c.retrieve.new.disk)) (sym c.headed.ensures)
      (reads_exactly (command.At c.args.t c.args.cols) c.args.self.now.parts (g.D.Disk.image c.args.disk.now) _ (g.D.Disk.taken c.args.disk.now) (g.D.Disk.taken c.retrieve.new.disk) refl refl (λ m got takes. takes) (taken_of c.args.self.now.parts (c.args.t ∷ []) c.args.cols (g.D.Disk.image c.args.disk.now) (g.D.Disk.taken c.args.disk.now) (g.D.Disk.taken c.retrieve.new.disk) c.in_ok-leads.field-0 c.in_ok-leads.ensures.over));
}
