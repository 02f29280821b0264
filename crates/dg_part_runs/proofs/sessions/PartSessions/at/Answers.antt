use Rattle.std.proofs.Common.{List, Ok, Err, ap, length, refl, sym, ◌∙◌, subst}
use Rattle.dg_session.specs.SessionState.{SessionState}
use Rattle.dg_part_runs.specs.Disks.{images_of}
use Rattle.dg_part_runs.specs.HeldParts.{ReadsParts}
use Rattle.dg_part_runs.specs.PartDamage.{AreWhole, NamesFirst}
use Rattle.dg_part_runs.proofs.LoopSteps.{as_many}
use Rattle.dg_part_runs.proofs.PartPromises.{written_back}
use Rattle.dg_part_runs.proofs.PartSteps.{at_failed, at_given, at_lacking, at_refused}
use Rattle.dg_part_runs.proofs.sessions.PartSessions.at.Goals as goal

pub returns-in-Some : goal.returns-in-Some
returns-in-Some g c = record {
  answers = at_refused g.D.Disk c.args.t c.args.cols c.args.self.now c.args.disks.now c.in-Some.refusal (sym c.refused_at.ensures ∙ c.in-Some.is);
}

pub read_parts-requires-clause-many : goal.read_parts-requires-clause-many
read_parts-requires-clause-many g c κs within =
    as_many g.D.Disk c.requires.ready.limits c.args.self.now.sessions.items c.args.disks.now c.requires.ready.parts ∙ ap length (sym c.deref_mut.ensures.value)

pub returns-in-Ok-add : goal.returns-in-Ok-add
returns-in-Ok-add g c = record {
  answers = at_given g.D.Disk c.args.t c.args.cols c.args.self.now _ c.args.disks.now c.read_parts.new.disks c.requires.silent (sym c.refused_at.ensures ∙ c.in_default.is)
      (written_back c.args.self.now.sessions c.deref_mut.result.now c.read_parts.new.sessions c.deref_mut.ensures.value (ap length c.read_parts.ensures.same)
      ∙ c.read_parts.ensures.same ∙ c.deref_mut.ensures.value) refl c.read_parts.ensures.disks c.in-Ok-add.handle c.in-Ok.weight c.in-Ok.set
      (λ limits. subst (λ (l : List SessionState). ReadsParts limits l (images_of g.D.Disk c.args.disks.now) c.args.t c.args.cols (Ok (c.in-Ok.set, c.in-Ok.weight))) c.deref_mut.ensures.value (c.in-Ok.ensures.reads limits))
      (subst (λ (l : List SessionState). AreWhole c.args.t c.args.cols l (images_of g.D.Disk c.args.disks.now)) c.deref_mut.ensures.value c.in-Ok.ensures.damage)
      c.in-Ok-add.ensures.added c.in-Ok-add.ensures.handle c.headed.result c.headed.ensures;
}

pub returns-in-Err-add : goal.returns-in-Err-add
returns-in-Err-add g c = record {
  answers = at_lacking g.D.Disk c.args.t c.args.cols c.args.self.now _ c.args.disks.now c.read_parts.new.disks c.requires.silent (sym c.refused_at.ensures ∙ c.in_default.is)
      (written_back c.args.self.now.sessions c.deref_mut.result.now c.read_parts.new.sessions c.deref_mut.ensures.value (ap length c.read_parts.ensures.same)
      ∙ c.read_parts.ensures.same ∙ c.deref_mut.ensures.value) refl c.read_parts.ensures.disks c.in-Err-add.ensures.err;
}

pub returns-in-Err : goal.returns-in-Err
returns-in-Err g c = record {
  answers = at_failed g.D.Disk c.args.t c.args.cols c.args.self.now _ c.args.disks.now c.read_parts.new.disks c.requires.silent (sym c.refused_at.ensures ∙ c.in_default.is)
      (written_back c.args.self.now.sessions c.deref_mut.result.now c.read_parts.new.sessions c.deref_mut.ensures.value (ap length c.read_parts.ensures.same)
      ∙ c.read_parts.ensures.same ∙ c.deref_mut.ensures.value) refl c.read_parts.ensures.disks refl c.in-Err.fault c.refusal_of.result c.refusal_of.ensures
      (λ limits. subst (λ (l : List SessionState). ReadsParts limits l (images_of g.D.Disk c.args.disks.now) c.args.t c.args.cols (Err c.in-Err.fault)) c.deref_mut.ensures.value (c.in-Err.ensures.reads limits))
      (subst (λ (l : List SessionState). NamesFirst c.args.t c.args.cols l (images_of g.D.Disk c.args.disks.now) c.in-Err.fault) c.deref_mut.ensures.value c.in-Err.ensures.damage)
      (λ is. c.in-Err.ensures.cause (ap (λ x. Err x) is));
}
