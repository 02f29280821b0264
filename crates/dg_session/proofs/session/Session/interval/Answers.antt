use Rattle.std.proofs.Common.{[], refl, sym, ◌∙◌, ap, subst, arith}
use Rattle.dg_batch.specs.declared.halt.Halt.TheVariants as halt
use Rattle.dg_batch.specs.Halt.{retrieval_halt}
use Rattle.dg_machine.specs.Answer.{headed}
use Rattle.dg_machine.specs.declared.command.Command.{Command}
use Rattle.dg_machine.specs.declared.command.Command.TheVariants as command
use Rattle.dg_machine.specs.declared.reply.Head.TheVariants as head
use Rattle.dg_machine.specs.declared.reply.Refusal.TheVariants as refusal
use Rattle.dg_machine.specs.declared.reply.Reply.{Reply}
use Rattle.dg_machine.specs.declared.reply.Reply.TheVariants as replied
use Rattle.dg_machine.specs.declared.selection.Selection.TheVariants.{Added}
use Rattle.dg_machine.specs.Needs.{needs}
use Rattle.dg_session.proofs.DamageStep.{damage_in, none_met, tells_no_damage}
use Rattle.dg_session.proofs.SessionIntervalStep.{interval_answers, interval_fails, interval_free, interval_most_of, interval_never_of, interval_set_of, interval_taken_of}
use Rattle.dg_session.proofs.SessionRetrievals.{reads_exactly, reads_failing, reads_unasked, retrieval_failed}
use Rattle.dg_session.proofs.SessionSteps.{handed_out, lacking_denies, refused_denies, refused_not_read}
use Rattle.dg_session.specs.Damage.{DamageIn, DamageIs, MeetsNone, interval_readings, reads_for}
use Rattle.dg_session.specs.Parts.{Parts}
use Rattle.dg_session.specs.Reads.{Reads, ReadsIn}
use Rattle.dg_session.specs.Session.{ComesTo}
use Rattle.dg_session.specs.SessionState.{SessionState}
use Rattle.dg_session.proofs.session.Session.interval.Goals as goal

pub interval_bytes-weight-requires : goal.interval_bytes-weight-requires
interval_bytes-weight-requires g c = (interval_free c.args.self.now.parts c.args.from c.args.until (sym c.refused.ensures ∙ c.in_default.is)).0

pub read_interval-requires-clause-there : goal.read_interval-requires-clause-there
read_interval-requires-clause-there g c = (interval_free c.args.self.now.parts c.args.from c.args.until (sym c.refused.ensures ∙ c.in_default.is)).0

pub add_selected-requires-clause-room : goal.add_selected-requires-clause-room
add_selected-requires-clause-room g c = (interval_free c.args.self.now.parts c.args.from c.args.until (sym c.refused.ensures ∙ c.in_default.is)).2

pub add_selected-requires-clause-numbers : goal.add_selected-requires-clause-numbers
add_selected-requires-clause-numbers g c = (interval_free c.args.self.now.parts c.args.from c.args.until (sym c.refused.ensures ∙ c.in_default.is)).3

pub returns-in-Some-clause-comes : goal.returns-in-Some-clause-comes
returns-in-Some-clause-comes g c =
    let p : Parts = c.args.self.now.parts in
    let image = g.D.Disk.image c.args.disk.now in
    refused_denies (command.Select (Added c.args.from c.args.until) c.args.cols) [] p p image image c.in-Some.refusal refl refl (sym c.refused.ensures ∙ c.in-Some.is)

pub returns-in_err-elements-clause-comes : goal.returns-in_err-elements-clause-comes
returns-in_err-elements-clause-comes g c =
    let p : Parts = c.args.self.now.parts in
    let image = g.D.Disk.image c.args.disk.now in
    let done : Command = command.Select (Added c.args.from c.args.until) c.args.cols in
    let f = c.in_err-elements.field-0.0 in
    handed_out c.from_residual.result (retrieval_halt f) (ComesTo done [] p image p (g.D.Disk.image c.read_interval.new.disk)) c.from_residual.ensures
    (retrieval_failed done p p image (g.D.Disk.image c.read_interval.new.disk) f refl refl (λ m. refl) (sym c.refused.ensures ∙ c.in_default.is) refl c.read_interval.ensures.disk.same_image
    (interval_never_of p c.args.from c.args.until c.args.cols image (g.D.Disk.taken c.args.disk.now) (g.D.Disk.taken c.read_interval.new.disk) f c.in_err-elements.ensures.over))

pub returns-in_err-add_selected-clause-comes : goal.returns-in_err-add_selected-clause-comes
returns-in_err-add_selected-clause-comes g c =
    let p : Parts = c.args.self.now.parts in
    let image = g.D.Disk.image c.args.disk.now in
    let done : Command = command.Select (Added c.args.from c.args.until) c.args.cols in
    handed_out c.from_residual-in_err-add_selected.result (halt.Refusal refusal.OutOfMemory) (ComesTo done [] p image c.add_selected.new.self.parts (g.D.Disk.image c.read_interval.new.disk)) c.from_residual-in_err-add_selected.ensures
    (lacking_denies done [] p c.add_selected.new.self.parts image (g.D.Disk.image c.read_interval.new.disk) c.in_err-add_selected.ensures.err c.read_interval.ensures.disk.same_image refl (sym c.refused.ensures ∙ c.in_default.is))

pub returns-clause-comes : goal.returns-clause-comes
returns-clause-comes g c =
    let p : Parts = c.args.self.now.parts in
    let image = g.D.Disk.image c.args.disk.now in
    let set = c.in_ok-elements.elements in
    let number = c.next-handle.ensures.next ∙ ap (λ (x : SessionState). x.parts.next) c.self.view_is in
    interval_answers p c.args.from c.args.until c.args.cols (sym c.refused.ensures ∙ c.in_default.is) c.add_selected.new.self.parts image (g.D.Disk.image c.read_interval.new.disk) c.interval_bytes-weight.result set c.headed.result
    c.read_interval.ensures.disk.same_image c.interval_bytes-weight.ensures
    (interval_set_of p c.args.from c.args.until c.args.cols image (g.D.Disk.taken c.args.disk.now) (g.D.Disk.taken c.read_interval.new.disk) set c.in_ok-elements.ensures.over)
    c.in_ok-add_selected.ensures.added (c.headed.ensures ∙ ap (λ n. headed (head.Added n c.interval_bytes-weight.result)) number)

pub returns-in-Some-clause-file : goal.returns-in-Some-clause-file
returns-in-Some-clause-file g c =
    let p : Parts = c.args.self.now.parts in
    let image = g.D.Disk.image c.args.disk.now in
    let done : Command = command.Select (Added c.args.from c.args.until) c.args.cols in
    record {
      damaged = tells_no_damage done p image c.in-Some.refusal (refused_not_read p 0 (needs done) c.in-Some.refusal (sym c.refused.ensures ∙ c.in-Some.is));
      undamaged = tt;
      reads = reads_unasked done p image c.in-Some.refusal (g.D.Disk.taken c.args.disk.now) (λ m got plan planned. omega arith);
    }

pub returns-in_err-elements-clause-file : goal.returns-in_err-elements-clause-file
returns-in_err-elements-clause-file g c =
    let p : Parts = c.args.self.now.parts in
    let image = g.D.Disk.image c.args.disk.now in
    let done : Command = command.Select (Added c.args.from c.args.until) c.args.cols in
    let f = c.in_err-elements.field-0.0 in
    let before = g.D.Disk.taken c.args.disk.now in
    let after = g.D.Disk.taken c.read_interval.new.disk in
    record {
      damaged = handed_out c.from_residual.result (retrieval_halt f) (λ r. DamageIn done p image r) c.from_residual.ensures
          (damage_in done (interval_readings c.args.from c.args.until c.args.cols) p image f refl c.in_err-elements.ensures.damage);
      undamaged = none_met c.from_residual.result (MeetsNone (reads_for done) p image) c.from_residual.ensures.0;
      reads = handed_out c.from_residual.result (retrieval_halt f) (λ r. ReadsIn done p image r before after) c.from_residual.ensures
          (reads_failing done p image f before after
          (λ h refuses late. interval_fails p c.args.from c.args.until c.args.cols (sym c.refused.ensures ∙ c.in_default.is) image h before after refuses late
          (interval_most_of p c.args.from c.args.until c.args.cols image before after c.read_interval.result c.read_interval.ensures.over)));
    }

pub returns-in_err-add_selected-clause-file : goal.returns-in_err-add_selected-clause-file
returns-in_err-add_selected-clause-file g c =
    let p : Parts = c.args.self.now.parts in
    let image = g.D.Disk.image c.args.disk.now in
    let done : Command = command.Select (Added c.args.from c.args.until) c.args.cols in
    let before = g.D.Disk.taken c.args.disk.now in
    let after = g.D.Disk.taken c.read_interval.new.disk in
    record {
      damaged = handed_out c.from_residual-in_err-add_selected.result (halt.Refusal refusal.OutOfMemory) (λ r. DamageIn done p image r) c.from_residual-in_err-add_selected.ensures tt;
      undamaged = none_met c.from_residual-in_err-add_selected.result (MeetsNone (reads_for done) p image) c.from_residual-in_err-add_selected.ensures.0;
      reads = handed_out c.from_residual-in_err-add_selected.result (halt.Refusal refusal.OutOfMemory) (λ r. ReadsIn done p image r before after) c.from_residual-in_err-add_selected.ensures
          (interval_fails p c.args.from c.args.until c.args.cols (sym c.refused.ensures ∙ c.in_default.is) image (replied.Refused refusal.OutOfMemory) before after refl refl
          (interval_most_of p c.args.from c.args.until c.args.cols image before after c.read_interval.result c.read_interval.ensures.over));
    }

pub returns-clause-file : goal.returns-clause-file
returns-clause-file g c =
    let p : Parts = c.args.self.now.parts in
    let image = g.D.Disk.image c.args.disk.now in
    let done : Command = command.Select (Added c.args.from c.args.until) c.args.cols in
    let before = g.D.Disk.taken c.args.disk.now in
    let after = g.D.Disk.taken c.read_interval.new.disk in
    record {
      damaged = subst (DamageIs done p image) (sym c.headed.ensures) tt;
      undamaged = c.in_ok-elements.ensures.damage;
      reads = subst (λ (x : Reply). Reads done p image x before after) (sym c.headed.ensures)
          (reads_exactly done p image _ before after refl refl (λ m got takes. takes)
          (interval_taken_of p c.args.from c.args.until c.args.cols image before after c.in_ok-elements.elements c.interval_bytes-weight.result c.interval_bytes-weight.ensures c.in_ok-elements.ensures.over));
    }
