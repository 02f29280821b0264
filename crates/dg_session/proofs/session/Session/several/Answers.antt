use Rattle.std.proofs.Common.{◌≡◌, [], None, length, map, take, refl, sym, ◌∙◌, ap, subst, arith}
use Rattle.std.specs.Prelude.{IfSome}
use Rattle.dg_machine.specs.declared.command.Command.TheVariants as command
use Rattle.dg_machine.specs.declared.reply.Head.TheVariants as head
use Rattle.dg_machine.specs.declared.reply.Refusal.TheVariants as refusal
use Rattle.dg_machine.specs.declared.reply.Reply.TheVariants as replied
use Rattle.dg_handles.specs.Handles.{overlays_on}
use Rattle.dg_machine.specs.Answer.{handle_lines}
use Rattle.dg_machine.specs.MachineState.{MachineState}
use Rattle.dg_machine.specs.Needs.{needs}
use Rattle.dg_retrieval.specs.Beginnings.{leads_in, led_to}
use Rattle.dg_session.specs.SessionState.{SessionState}
use Rattle.dg_batch.specs.declared.halt.Halt.TheVariants as halt
use Rattle.dg_session.specs.Damage.{DamageIn, MeetsNone, MeetsOver, Reads_along, graph_readings, reads_for}
use Rattle.dg_batch.specs.Halt.{retrieval_halt}
use Rattle.dg_session.specs.Parts.{Parts}
use Rattle.dg_session.specs.Reads.{IsRetrieved, ReadsIn, TakesAtMostRetrieval, bases_of, listed_by, with_new_handles}
use Rattle.dg_session.specs.Session.{ComesTo, StandsFor, refused_by, retrieval_needs}
use Rattle.dg_session.proofs.SessionSeveralStep.{needed, several_answers, several_fails}
use Rattle.dg_session.proofs.SessionLeads.{most_of, never_of, retrieved_of, taken_of}
use Rattle.dg_session.proofs.DamageStep.{damage_in, tells_no_damage, none_met}
use Rattle.dg_session.proofs.SessionRetrievals.{reads_failing, retrieval_failed, reads_exactly, reads_unasked}
use Rattle.dg_session.proofs.SessionSteps.{handed_out, lacking_denies, refused_denies, refused_not_read}
use Rattle.dg_session.proofs.session.Session.several.Goals as goal

pub returns-in-Some-clause-comes : goal.returns-in-Some-clause-comes
returns-in-Some-clause-comes g c =
    let p : Parts = c.args.self.now.parts in
    let asked : c.first_of-asked.result.now ≡ take c.args.count c.args.times = c.first_of-asked.ensures.times in
    let number : length (take c.args.count c.args.times) ≡ c.args.count = sym (ap length asked) ∙ c.first_of-asked.ensures.count in
    refused_denies (command.Several c.args.cols c.args.times c.args.count) [] p p (g.D.Disk.image c.args.disk.now) (g.D.Disk.image c.args.disk.now) c.in-Some.refusal refl refl
    (needed p c.args.cols c.args.times c.args.count number c.requires.some ∙ (λ i. refused_by p 0 (retrieval_needs (sym asked i) (number i))) ∙ sym c.refused.ensures ∙ c.in-Some.is)

pub returns-in_err-retrieved-clause-comes : goal.returns-in_err-retrieved-clause-comes
returns-in_err-retrieved-clause-comes g c =
    let p : Parts = c.args.self.now.parts in
    let asked : c.first_of-asked.result.now ≡ take c.args.count c.args.times = c.first_of-asked.ensures.times in
    let number : length (take c.args.count c.args.times) ≡ c.args.count = sym (ap length asked) ∙ c.first_of-asked.ensures.count in
    let none : refused_by p 0 (retrieval_needs (take c.args.count c.args.times) (length (take c.args.count c.args.times))) ≡ None = (λ i. refused_by p 0 (retrieval_needs (sym asked i) (number i))) ∙ sym c.refused.ensures ∙ c.in_default.is in
    handed_out c.from_residual.result (retrieval_halt c.in_err-retrieved.field-0.0)
    (ComesTo (command.Several c.args.cols c.args.times c.args.count) [] p (g.D.Disk.image c.args.disk.now) c.retrieve.new.self.parts (g.D.Disk.image c.retrieve.new.disk)) c.from_residual.ensures
    (retrieval_failed (command.Several c.args.cols c.args.times c.args.count) p c.retrieve.new.self.parts (g.D.Disk.image c.args.disk.now) (g.D.Disk.image c.retrieve.new.disk) c.in_err-retrieved.field-0.0 refl refl (λ m. refl)
    (needed p c.args.cols c.args.times c.args.count number c.requires.some ∙ none) (ap (λ (x : SessionState). x.parts) c.retrieve.ensures.same) c.retrieve.ensures.disk.same_image (never_of c.args.self.now.parts c.first_of-asked.result.now c.args.cols (g.D.Disk.image c.args.disk.now) (g.D.Disk.taken c.args.disk.now) (g.D.Disk.taken c.retrieve.new.disk) c.in_err-retrieved.field-0.0 c.in_err-retrieved.ensures.over))

pub returns-in_err-lines-clause-comes : goal.returns-in_err-lines-clause-comes
returns-in_err-lines-clause-comes g c =
    let p : Parts = c.args.self.now.parts in
    let asked : c.first_of-asked.result.now ≡ take c.args.count c.args.times = c.first_of-asked.ensures.times in
    let number : length (take c.args.count c.args.times) ≡ c.args.count = sym (ap length asked) ∙ c.first_of-asked.ensures.count in
    let none : refused_by p 0 (retrieval_needs (take c.args.count c.args.times) (length (take c.args.count c.args.times))) ≡ None = (λ i. refused_by p 0 (retrieval_needs (sym asked i) (number i))) ∙ sym c.refused.ensures ∙ c.in_default.is in
    handed_out c.from_residual-in_err-lines.result (halt.Refusal refusal.OutOfMemory)
    (ComesTo (command.Several c.args.cols c.args.times c.args.count) [] p (g.D.Disk.image c.args.disk.now) c.retrieve.new.self.parts (g.D.Disk.image c.retrieve.new.disk)) c.from_residual-in_err-lines.ensures
    (lacking_denies (command.Several c.args.cols c.args.times c.args.count) [] p c.retrieve.new.self.parts (g.D.Disk.image c.args.disk.now) (g.D.Disk.image c.retrieve.new.disk)
    (ap (λ (x : SessionState). x.parts) c.retrieve.ensures.same) c.retrieve.ensures.disk.same_image refl (needed p c.args.cols c.args.times c.args.count number c.requires.some ∙ none))

pub returns-in_err-add_handles-clause-comes : goal.returns-in_err-add_handles-clause-comes
returns-in_err-add_handles-clause-comes g c =
    let p : Parts = c.args.self.now.parts in
    let asked : c.first_of-asked.result.now ≡ take c.args.count c.args.times = c.first_of-asked.ensures.times in
    let number : length (take c.args.count c.args.times) ≡ c.args.count = sym (ap length asked) ∙ c.first_of-asked.ensures.count in
    let none : refused_by p 0 (retrieval_needs (take c.args.count c.args.times) (length (take c.args.count c.args.times))) ≡ None = (λ i. refused_by p 0 (retrieval_needs (sym asked i) (number i))) ∙ sym c.refused.ensures ∙ c.in_default.is in
    handed_out c.from_residual-in_err-add_handles.result (halt.Refusal refusal.OutOfMemory)
    (ComesTo (command.Several c.args.cols c.args.times c.args.count) [] p (g.D.Disk.image c.args.disk.now) c.add_handles.new.self.parts (g.D.Disk.image c.retrieve.new.disk)) c.from_residual-in_err-add_handles.ensures
    (lacking_denies (command.Several c.args.cols c.args.times c.args.count) [] p c.add_handles.new.self.parts (g.D.Disk.image c.args.disk.now) (g.D.Disk.image c.retrieve.new.disk)
    (c.in_err-add_handles.ensures.err ∙ (ap (λ (x : SessionState). x.parts) c.retrieve.ensures.same)) c.retrieve.ensures.disk.same_image refl (needed p c.args.cols c.args.times c.args.count number c.requires.some ∙ none))

pub returns-clause-comes : goal.returns-clause-comes
returns-clause-comes g c =
    let p : Parts = c.args.self.now.parts in
    let r = c.in_ok-retrieved.retrieved in
    let asked : c.first_of-asked.result.now ≡ take c.args.count c.args.times = c.first_of-asked.ensures.times in
    let number : length (take c.args.count c.args.times) ≡ c.args.count = sym (ap length asked) ∙ c.first_of-asked.ensures.count in
    let none : refused_by p 0 (retrieval_needs (take c.args.count c.args.times) (length (take c.args.count c.args.times))) ≡ None = (λ i. refused_by p 0 (retrieval_needs (sym asked i) (number i))) ∙ sym c.refused.ensures ∙ c.in_default.is in
    let next : c.next-next.result ≡ p.next = c.next-next.ensures.next ∙ ap (λ (x : SessionState). x.parts.next) (c.self.view_is ∙ c.retrieve.ensures.same) in
    let same : c.retrieve.new.self.parts ≡ p = ap (λ (x : SessionState). x.parts) c.retrieve.ensures.same in
    let cols = c.args.cols in
    several_answers p c.args.cols c.args.times c.args.count number c.requires.some none c.add_handles.new.self.parts (g.D.Disk.image c.args.disk.now) (g.D.Disk.image c.retrieve.new.disk) r.weight r.sum r.singles.items (bases_of (leads_in r.leads)) (map (led_to p.graph (listed_by p) cols) (leads_in r.leads)) c.in_ok-lines.lines.items _
    c.retrieve.ensures.disk.same_image
    (subst (λ ts. IfSome (g.D.Disk.image c.args.disk.now) (λ image. (m : MachineState) → StandsFor p image m → IsRetrieved m ts c.args.cols r.weight r.singles.items (bases_of (leads_in r.leads)) (map (led_to p.graph (listed_by p) cols) (leads_in r.leads)))) asked (retrieved_of c.args.self.now.parts c.first_of-asked.result.now c.args.cols (g.D.Disk.image c.args.disk.now) (g.D.Disk.taken c.args.disk.now) (g.D.Disk.taken c.retrieve.new.disk) c.in_ok-retrieved.retrieved c.in_ok-retrieved.ensures.over))
    (c.in_ok-add_handles.ensures.added ∙ (λ i. with_new_handles (same i) (overlays_on cols (asked i) (bases_of (leads_in r.leads))) (map (led_to (same i).graph (listed_by (same i)) cols) (leads_in r.leads))))
    c.in_ok-retrieved.ensures.done.sum
    (c.in_ok-lines.ensures ∙ (let singles : c.deref.result.now ≡ r.singles.items = c.deref.ensures.value in λ i. handle_lines (next i) (asked i) (singles i)))
    (let body = c.from_vec.ensures in λ i. replied.Answered (head.Several r.weight r.sum) (body i))

pub returns-in-Some-clause-file : goal.returns-in-Some-clause-file
returns-in-Some-clause-file g c = record {
  damaged =
      let p : Parts = c.args.self.now.parts in
      let asked : c.first_of-asked.result.now ≡ take c.args.count c.args.times = c.first_of-asked.ensures.times in
      let number : length (take c.args.count c.args.times) ≡ c.args.count = sym (ap length asked) ∙ c.first_of-asked.ensures.count in
      tells_no_damage (command.Several c.args.cols c.args.times c.args.count) p (g.D.Disk.image c.args.disk.now) c.in-Some.refusal
      (refused_not_read p 0 (needs (command.Several c.args.cols c.args.times c.args.count)) c.in-Some.refusal
      (needed p c.args.cols c.args.times c.args.count number c.requires.some ∙ (λ i. refused_by p 0 (retrieval_needs (sym asked i) (number i))) ∙ sym c.refused.ensures ∙ c.in-Some.is));
  undamaged = tt;
  reads = reads_unasked (command.Several c.args.cols c.args.times c.args.count) c.args.self.now.parts (g.D.Disk.image c.args.disk.now) c.in-Some.refusal (g.D.Disk.taken c.args.disk.now) (λ m got plan planned. omega arith);
}

pub returns-in_err-retrieved-clause-file : goal.returns-in_err-retrieved-clause-file
returns-in_err-retrieved-clause-file g c = record {
  damaged =
      let p : Parts = c.args.self.now.parts in
      let image = g.D.Disk.image c.args.disk.now in
      let asked : c.first_of-asked.result.now ≡ take c.args.count c.args.times = c.first_of-asked.ensures.times in
      handed_out c.from_residual.result (retrieval_halt c.in_err-retrieved.field-0.0) (λ r. DamageIn (command.Several c.args.cols c.args.times c.args.count) p image r) c.from_residual.ensures
      (damage_in (command.Several c.args.cols c.args.times c.args.count) (graph_readings c.first_of-asked.result.now c.args.cols) p image c.in_err-retrieved.field-0.0
      (ap (λ ts. Reads_along (graph_readings ts c.args.cols)) (sym asked)) c.in_err-retrieved.ensures.damage);
  undamaged = none_met c.from_residual.result (MeetsNone (reads_for (command.Several c.args.cols c.args.times c.args.count)) c.args.self.now.parts (g.D.Disk.image c.args.disk.now)) c.from_residual.ensures.0;
  reads =
      let p : Parts = c.args.self.now.parts in
      let asked : c.first_of-asked.result.now ≡ take c.args.count c.args.times = c.first_of-asked.ensures.times in
      let number : length (take c.args.count c.args.times) ≡ c.args.count = sym (ap length asked) ∙ c.first_of-asked.ensures.count in
      let none : refused_by p 0 (retrieval_needs (take c.args.count c.args.times) (length (take c.args.count c.args.times))) ≡ None = (λ i. refused_by p 0 (retrieval_needs (sym asked i) (number i))) ∙ sym c.refused.ensures ∙ c.in_default.is in
      handed_out c.from_residual.result (retrieval_halt c.in_err-retrieved.field-0.0)
      (λ r. ReadsIn (command.Several c.args.cols c.args.times c.args.count) p (g.D.Disk.image c.args.disk.now) r (g.D.Disk.taken c.args.disk.now) (g.D.Disk.taken c.retrieve.new.disk)) c.from_residual.ensures
      (reads_failing (command.Several c.args.cols c.args.times c.args.count) p (g.D.Disk.image c.args.disk.now) c.in_err-retrieved.field-0.0 (g.D.Disk.taken c.args.disk.now) (g.D.Disk.taken c.retrieve.new.disk)
      (λ h refuses late. several_fails p c.args.cols c.args.times c.args.count number c.requires.some none (g.D.Disk.image c.args.disk.now) h (g.D.Disk.taken c.args.disk.now) (g.D.Disk.taken c.retrieve.new.disk) refuses late
      (subst (λ ts. IfSome (g.D.Disk.image c.args.disk.now) (λ image. (m : MachineState) → StandsFor p image m → TakesAtMostRetrieval m ts c.args.cols (g.D.Disk.taken c.args.disk.now) (g.D.Disk.taken c.retrieve.new.disk))) asked (most_of c.args.self.now.parts c.first_of-asked.result.now c.args.cols (g.D.Disk.image c.args.disk.now) (g.D.Disk.taken c.args.disk.now) (g.D.Disk.taken c.retrieve.new.disk) c.retrieve.result c.retrieve.ensures.over))));
}

pub returns-in_err-lines-clause-file : goal.returns-in_err-lines-clause-file
returns-in_err-lines-clause-file g c = record {
  damaged = handed_out c.from_residual-in_err-lines.result (halt.Refusal refusal.OutOfMemory) (λ r. DamageIn (command.Several c.args.cols c.args.times c.args.count) c.args.self.now.parts (g.D.Disk.image c.args.disk.now) r) c.from_residual-in_err-lines.ensures tt;
  undamaged = none_met c.from_residual-in_err-lines.result (MeetsNone (reads_for (command.Several c.args.cols c.args.times c.args.count)) c.args.self.now.parts (g.D.Disk.image c.args.disk.now)) c.from_residual-in_err-lines.ensures.0;
  reads =
      let p : Parts = c.args.self.now.parts in
      let asked : c.first_of-asked.result.now ≡ take c.args.count c.args.times = c.first_of-asked.ensures.times in
      let number : length (take c.args.count c.args.times) ≡ c.args.count = sym (ap length asked) ∙ c.first_of-asked.ensures.count in
      let none : refused_by p 0 (retrieval_needs (take c.args.count c.args.times) (length (take c.args.count c.args.times))) ≡ None = (λ i. refused_by p 0 (retrieval_needs (sym asked i) (number i))) ∙ sym c.refused.ensures ∙ c.in_default.is in
      handed_out c.from_residual-in_err-lines.result (halt.Refusal refusal.OutOfMemory)
      (λ r. ReadsIn (command.Several c.args.cols c.args.times c.args.count) p (g.D.Disk.image c.args.disk.now) r (g.D.Disk.taken c.args.disk.now) (g.D.Disk.taken c.retrieve.new.disk)) c.from_residual-in_err-lines.ensures
      (several_fails p c.args.cols c.args.times c.args.count number c.requires.some none (g.D.Disk.image c.args.disk.now) (replied.Refused refusal.OutOfMemory) (g.D.Disk.taken c.args.disk.now) (g.D.Disk.taken c.retrieve.new.disk) refl refl
      (subst (λ ts. IfSome (g.D.Disk.image c.args.disk.now) (λ image. (m : MachineState) → StandsFor p image m → TakesAtMostRetrieval m ts c.args.cols (g.D.Disk.taken c.args.disk.now) (g.D.Disk.taken c.retrieve.new.disk))) asked (most_of c.args.self.now.parts c.first_of-asked.result.now c.args.cols (g.D.Disk.image c.args.disk.now) (g.D.Disk.taken c.args.disk.now) (g.D.Disk.taken c.retrieve.new.disk) c.retrieve.result c.retrieve.ensures.over)));
}

pub returns-in_err-add_handles-clause-file : goal.returns-in_err-add_handles-clause-file
returns-in_err-add_handles-clause-file g c = record {
  damaged = handed_out c.from_residual-in_err-add_handles.result (halt.Refusal refusal.OutOfMemory) (λ r. DamageIn (command.Several c.args.cols c.args.times c.args.count) c.args.self.now.parts (g.D.Disk.image c.args.disk.now) r) c.from_residual-in_err-add_handles.ensures tt;
  undamaged = none_met c.from_residual-in_err-add_handles.result (MeetsNone (reads_for (command.Several c.args.cols c.args.times c.args.count)) c.args.self.now.parts (g.D.Disk.image c.args.disk.now)) c.from_residual-in_err-add_handles.ensures.0;
  reads =
      let p : Parts = c.args.self.now.parts in
      let asked : c.first_of-asked.result.now ≡ take c.args.count c.args.times = c.first_of-asked.ensures.times in
      let number : length (take c.args.count c.args.times) ≡ c.args.count = sym (ap length asked) ∙ c.first_of-asked.ensures.count in
      let none : refused_by p 0 (retrieval_needs (take c.args.count c.args.times) (length (take c.args.count c.args.times))) ≡ None = (λ i. refused_by p 0 (retrieval_needs (sym asked i) (number i))) ∙ sym c.refused.ensures ∙ c.in_default.is in
      handed_out c.from_residual-in_err-add_handles.result (halt.Refusal refusal.OutOfMemory)
      (λ r. ReadsIn (command.Several c.args.cols c.args.times c.args.count) p (g.D.Disk.image c.args.disk.now) r (g.D.Disk.taken c.args.disk.now) (g.D.Disk.taken c.retrieve.new.disk)) c.from_residual-in_err-add_handles.ensures
      (several_fails p c.args.cols c.args.times c.args.count number c.requires.some none (g.D.Disk.image c.args.disk.now) (replied.Refused refusal.OutOfMemory) (g.D.Disk.taken c.args.disk.now) (g.D.Disk.taken c.retrieve.new.disk) refl refl
      (subst (λ ts. IfSome (g.D.Disk.image c.args.disk.now) (λ image. (m : MachineState) → StandsFor p image m → TakesAtMostRetrieval m ts c.args.cols (g.D.Disk.taken c.args.disk.now) (g.D.Disk.taken c.retrieve.new.disk))) asked (most_of c.args.self.now.parts c.first_of-asked.result.now c.args.cols (g.D.Disk.image c.args.disk.now) (g.D.Disk.taken c.args.disk.now) (g.D.Disk.taken c.retrieve.new.disk) c.retrieve.result c.retrieve.ensures.over)));
}

pub returns-clause-file : goal.returns-clause-file
returns-clause-file g c = record {
  damaged = tt;
  undamaged = subst (λ ts. MeetsOver (graph_readings ts c.args.cols) c.args.self.now.parts (g.D.Disk.image c.args.disk.now) None) c.first_of-asked.ensures.times c.in_ok-retrieved.ensures.damage;
  reads = reads_exactly (command.Several c.args.cols c.args.times c.args.count) c.args.self.now.parts (g.D.Disk.image c.args.disk.now) _ (g.D.Disk.taken c.args.disk.now) (g.D.Disk.taken c.retrieve.new.disk) refl refl (λ m got takes. takes) (taken_of c.args.self.now.parts c.first_of-asked.result.now c.args.cols (g.D.Disk.image c.args.disk.now) (g.D.Disk.taken c.args.disk.now) (g.D.Disk.taken c.retrieve.new.disk) c.in_ok-retrieved.retrieved c.in_ok-retrieved.ensures.over);
}
