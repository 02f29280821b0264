use Rattle.std.proofs.Common.{[], Err, refl, sym, ◌∙◌, ap, subst}
use Rattle.dg_machine.specs.declared.command.Command.TheVariants as command
use Rattle.dg_machine.specs.Needs.{needs}
use Rattle.dg_machine.specs.declared.reply.Reply.{Reply}
use Rattle.dg_machine.specs.declared.reply.Reply.TheVariants as replied
use Rattle.dg_batch.specs.declared.halt.Halt.{Halt}
use Rattle.dg_session.specs.Damage.{DamageIn, DamageIs}
use Rattle.dg_session.specs.Reads.{Reads, ReadsIn}
use Rattle.dg_session.specs.Parts.{Parts}
use Rattle.dg_session.specs.Session.{ComesTo}
use Rattle.dg_session.specs.SessionState.{SessionState}
use Rattle.dg_session.specs.Verified.{VerifiesFile}
use Rattle.dg_session.proofs.SessionSteps.{refused_denies, refused_not_read}
use Rattle.dg_session.proofs.VerifiedStep.{failed_damage, failed_reads, verified_reads, verify_answers, verify_failed, verify_unread}
use Rattle.dg_session.proofs.DamageStep.{met_nothing, tells_no_damage}
use Rattle.dg_session.proofs.session.Session.verify.Goals as goal

pub returns-in-Some-clause-comes : goal.returns-in-Some-clause-comes
returns-in-Some-clause-comes g c =
    let p : Parts = c.args.self.now.parts in
    let image = g.D.Disk.image c.args.disk.now in
    refused_denies command.Verify [] p p image image c.in-Some.refusal refl refl (sym c.refused.ensures ∙ c.in-Some.is)

pub returns-in-Err-clause-comes : goal.returns-in-Err-clause-comes
returns-in-Err-clause-comes g c =
    subst (λ (h : Halt). ComesTo command.Verify [] c.args.self.now.parts (g.D.Disk.image c.args.disk.now) c.soundness.new.self.parts (g.D.Disk.image c.soundness.new.disk) (Err h)) (sym c.verify_halt.ensures)
    (verify_failed c.args.self.now.parts c.soundness.new.self.parts (g.D.Disk.image c.args.disk.now) (g.D.Disk.image c.soundness.new.disk) c.in-Err.fault (sym c.refused.ensures ∙ c.in_default.is) (ap (λ (x : SessionState). x.parts) c.soundness.ensures.same) c.soundness.ensures.disk.same_image)

pub returns-clause-comes : goal.returns-clause-comes
returns-clause-comes g c =
    verify_answers c.law_standing_files_are_sound.ensures c.args.self.now.parts c.soundness.new.self.parts (g.D.Disk.image c.args.disk.now) (g.D.Disk.image c.soundness.new.disk) c.in-Ok.soundness c.headed.result
    (sym c.refused.ensures ∙ c.in_default.is) (ap (λ (x : SessionState). x.parts) c.soundness.ensures.same) c.soundness.ensures.disk.same_image c.in-Ok.ensures.sound c.headed.ensures

pub returns-clause-verified : goal.returns-clause-verified
returns-clause-verified g c =
    subst (VerifiesFile command.Verify c.args.self.now.parts (g.D.Disk.image c.args.disk.now)) (sym c.headed.ensures) c.in-Ok.ensures.sound

pub returns-in-Some-clause-file : goal.returns-in-Some-clause-file
returns-in-Some-clause-file g c =
    let p : Parts = c.args.self.now.parts in
    let image = g.D.Disk.image c.args.disk.now in
    record {
      damaged = tells_no_damage command.Verify p image c.in-Some.refusal (refused_not_read p 0 (needs command.Verify) c.in-Some.refusal (sym c.refused.ensures ∙ c.in-Some.is));
      undamaged = tt;
      reads = verify_unread p image (replied.Refused c.in-Some.refusal) (g.D.Disk.taken c.args.disk.now) (g.D.Disk.taken c.args.disk.now) refl;
    }

pub returns-in-Err-clause-file : goal.returns-in-Err-clause-file
returns-in-Err-clause-file g c = record {
  damaged =
      subst (λ (h : Halt). DamageIn command.Verify c.args.self.now.parts (g.D.Disk.image c.args.disk.now) (Err h)) (sym c.verify_halt.ensures)
      (failed_damage c.args.self.now.parts (g.D.Disk.image c.args.disk.now) c.in-Err.fault);
  undamaged = met_nothing {A = Reply} command.Verify c.args.self.now.parts (g.D.Disk.image c.args.disk.now) (Err c.verify_halt.result) tt;
  reads =
      subst (λ (h : Halt). ReadsIn command.Verify c.args.self.now.parts (g.D.Disk.image c.args.disk.now) (Err h) (g.D.Disk.taken c.args.disk.now) (g.D.Disk.taken c.soundness.new.disk)) (sym c.verify_halt.ensures)
      (failed_reads c.args.self.now.parts (g.D.Disk.image c.args.disk.now) c.in-Err.fault (g.D.Disk.taken c.args.disk.now) (g.D.Disk.taken c.soundness.new.disk) c.soundness.ensures.takes);
}

pub returns-clause-file : goal.returns-clause-file
returns-clause-file g c = record {
  damaged = subst (DamageIs command.Verify c.args.self.now.parts (g.D.Disk.image c.args.disk.now)) (sym c.headed.ensures) tt;
  undamaged = tt;
  reads =
      subst (λ (r : Reply). Reads command.Verify c.args.self.now.parts (g.D.Disk.image c.args.disk.now) r (g.D.Disk.taken c.args.disk.now) (g.D.Disk.taken c.soundness.new.disk)) (sym c.headed.ensures)
      (verified_reads c.args.self.now.parts (g.D.Disk.image c.args.disk.now) c.in-Ok.soundness (g.D.Disk.taken c.args.disk.now) (g.D.Disk.taken c.soundness.new.disk) c.soundness.ensures.takes);
}
