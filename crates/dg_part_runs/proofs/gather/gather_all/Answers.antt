use Rattle.std.proofs.Common.{arith, ◌≡◌, ℕ, List, [], Option, Ok, Err, Vec, Global, ap, get_or, length, refl, sym, ◌∙◌, subst, take}
use Rattle.std.specs.Prelude.{IsErrOf, slice_set}
use Rattle.std.proofs.Math.ListN.{length-map}
use Rattle.dg_gather.specs.declared.gathered.Gathered.{Gathered}
use Rattle.dg_session.specs.SessionState.{SessionState}
use Rattle.dg_records.specs.declared.fault.RecordFault.TheVariants as fault
use Rattle.dg_part_runs.specs.Disks.{SomeRose, faults_of, images_of}
use Rattle.dg_part_runs.specs.HeldParts.{AreGathered, GathersPart, IsPart, NeverDamaged}
use Rattle.dg_part_runs.specs.PartDamage.{AreWhole, IsWhole, NamesMet, TellsFirst}
use Rattle.dg_part_runs.proofs.DiskLists.{fails_one, reads_all_none, reads_one}
use Rattle.dg_part_runs.proofs.GatheredParts.{never_by_one}
use Rattle.dg_part_runs.proofs.LoopSteps.{gathered_step, gathers_old, handed_out, part_at, set_same, take_all}
use Rattle.dg_part_runs.proofs.PartDamages.{first_step, whole_step}
use Rattle.dg_part_runs.proofs.gather.gather_all.Goals as goal

pub returns-in_err-gathered-clause-disks : goal.returns-in_err-gathered-clause-disks
returns-in_err-gathered-clause-disks g c = reads_all_none g.D.Disk c.args.disks.now

pub loop-part-init : goal.loop-part-init
loop-part-init g c = record {
  same = refl;
  reads = reads_all_none g.D.Disk c.args.disks.now;
  whole = tt;
  gathered = λ limits. subst (λ (l : List Gathered). AreGathered limits c.args.t c.args.cols [] [] l) (sym c.in_ok-gathered.ensures.items) tt;
}

pub gather_part-requires : goal.gather_part-requires
gather_part-requires g c =
    let l = c.loop-part in
    let limits = c.requires.parts.0 in
    record {
      part = (
        limits,
        subst (λ (sessions : List SessionState). IsPart limits (get_or sessions l.part c.index-sessions-part.result) (g.D.Disk.image (get_or l.disks l.part c.index-disks-part.result))) (sym l.invariant.same)
            (part_at g.D.Disk limits c.args.sessions.now c.args.disks.now l.disks l.part c.index-sessions-part.result c.index-disks-part.result c.requires.parts.1 l.invariant.reads
            (omega (arith, c.loop-part-test.true, ap length l.invariant.same)) (omega (arith, c.loop-part-test.true, l.auto.sessions, l.auto.disks, c.requires.many))),
      );
    }

pub returns-in_err-gather_part-clause-never : goal.returns-in_err-gather_part-clause-never
returns-in_err-gather_part-clause-never g c = λ limits.
    let l = c.loop-part in
    let s = c.index-sessions-part.result in
    let e = c.index-disks-part.result in
    handed_out c.from_residual-in_err-gather_part.result c.in_err-gather_part.field-0.0 (NeverDamaged limits c.args.sessions.now (images_of g.D.Disk c.args.disks.now)) c.from_residual-in_err-gather_part.ensures
    (never_by_one (Vec Gathered Global) limits c.args.sessions.now (images_of g.D.Disk c.args.disks.now) l.part s (g.D.Disk.image e) c.args.t c.args.cols c.in_err-gather_part.field-0.0
    (omega (arith, c.loop-part-test.true, ap length l.invariant.same))
    (gathers_old g.D.Disk limits c.args.t c.args.cols (get_or c.args.sessions.now l.part s) c.args.disks.now l.disks l.part e (Err c.in_err-gather_part.field-0.0) l.invariant.reads
    (omega (arith, c.loop-part-test.true, l.auto.sessions, l.auto.disks, c.requires.many))
    (subst (λ (sessions : List SessionState). GathersPart limits (get_or sessions l.part s) (g.D.Disk.image (get_or l.disks l.part e)) c.args.t c.args.cols (Err c.in_err-gather_part.field-0.0)) l.invariant.same
    (c.in_err-gather_part.ensures.gathers limits))))

pub returns-in_err-gather_part-clause-cause : goal.returns-in_err-gather_part-clause-cause
returns-in_err-gather_part-clause-cause g c =
    let l = c.loop-part in
    handed_out c.from_residual-in_err-gather_part.result c.in_err-gather_part.field-0.0
    (λ r. IsErrOf r fault.Disk → SomeRose (faults_of g.D.Disk c.args.disks.now) (faults_of g.D.Disk (slice_set l.disks l.part c.gather_part.new.disk))) c.from_residual-in_err-gather_part.ensures
    (λ is.
    let same : c.in_err-gather_part.field-0.0 ≡ fault.Disk = cc in
    fails_one g.D.Disk c.args.disks.now l.disks l.part c.gather_part.new.disk c.index-disks-part.result l.invariant.reads
    (omega (arith, c.loop-part-test.true, l.auto.sessions, l.auto.disks, c.requires.many)) (c.in_err-gather_part.ensures.cause (ap (λ x. Err x) same)))

pub returns-in_err-gather_part-clause-damage : goal.returns-in_err-gather_part-clause-damage
returns-in_err-gather_part-clause-damage g c =
    let l = c.loop-part in
    let s = c.index-sessions-part.result in
    let e = c.index-disks-part.result in
    let f = c.in_err-gather_part.field-0.0 in
    handed_out c.from_residual-in_err-gather_part.result f (TellsFirst c.args.t c.args.cols c.args.sessions.now (images_of g.D.Disk c.args.disks.now)) c.from_residual-in_err-gather_part.ensures
    (first_step g.D.Disk c.args.t c.args.cols c.args.sessions.now c.args.disks.now l.disks l.part s e l.invariant.reads
    (omega (arith, c.loop-part-test.true, ap length l.invariant.same)) (omega (arith, c.loop-part-test.true, l.auto.sessions, l.auto.disks, c.requires.many)) (omega (arith, l.auto.disks)) f l.invariant.whole
    (subst (λ (sessions : List SessionState). NamesMet c.args.t c.args.cols (get_or sessions l.part s) (g.D.Disk.image (get_or l.disks l.part e)) f) l.invariant.same c.in_err-gather_part.ensures.damage))

pub returns-in_err-gather_part-clause-disks : goal.returns-in_err-gather_part-clause-disks
returns-in_err-gather_part-clause-disks g c =
    let l = c.loop-part in
    reads_one g.D.Disk c.args.disks.now l.disks l.part c.gather_part.new.disk c.index-disks-part.result l.invariant.reads
    (omega (arith, c.loop-part-test.true, l.auto.sessions, l.auto.disks, c.requires.many)) c.in_err-gather_part.ensures.disk

pub returns-in_err-push-clause-disks : goal.returns-in_err-push-clause-disks
returns-in_err-push-clause-disks g c =
    let l = c.loop-part in
    reads_one g.D.Disk c.args.disks.now l.disks l.part c.gather_part.new.disk c.index-disks-part.result l.invariant.reads
    (omega (arith, c.loop-part-test.true, l.auto.sessions, l.auto.disks, c.requires.many)) c.in_ok-gather_part.ensures.disk

pub loop-part-preserved : goal.loop-part-preserved
loop-part-preserved g c =
    let l = c.loop-part in
    let s = c.index-sessions-part.result in
    let e = c.index-disks-part.result in
    record {
      same = set_same l.sessions l.part s c.gather_part.new.session c.in_ok-gather_part.ensures.same ∙ l.invariant.same;
      reads = reads_one g.D.Disk c.args.disks.now l.disks l.part c.gather_part.new.disk e l.invariant.reads
          (omega (arith, c.loop-part-test.true, l.auto.sessions, l.auto.disks, c.requires.many)) c.in_ok-gather_part.ensures.disk;
      whole = whole_step g.D.Disk c.args.t c.args.cols c.args.sessions.now c.args.disks.now l.disks l.part s e l.invariant.reads
          (omega (arith, c.loop-part-test.true, ap length l.invariant.same)) (omega (arith, c.loop-part-test.true, l.auto.sessions, l.auto.disks, c.requires.many)) (omega (arith, l.auto.disks))
          l.invariant.whole
          (subst (λ (sessions : List SessionState). IsWhole c.args.t c.args.cols (get_or sessions l.part s) (g.D.Disk.image (get_or l.disks l.part e))) l.invariant.same
          c.in_ok-gather_part.ensures.damage);
      gathered = λ limits.
          gathered_step g.D.Disk limits c.args.t c.args.cols c.args.sessions.now c.args.disks.now l.disks l.part s e l.gathered.items c.push.new.self.items c.in_ok-gather_part.field-0 l.invariant.reads
          (omega (arith, c.loop-part-test.true, ap length l.invariant.same)) (omega (arith, c.loop-part-test.true, l.auto.sessions, l.auto.disks, c.requires.many)) (omega (arith, l.auto.disks))
          (l.invariant.gathered limits)
          (subst (λ (sessions : List SessionState). GathersPart limits (get_or sessions l.part s) (g.D.Disk.image (get_or l.disks l.part e)) c.args.t c.args.cols (Ok c.in_ok-gather_part.field-0)) l.invariant.same
          (c.in_ok-gather_part.ensures.gathers limits)) c.in_ok-push.ensures.items;
    }

pub returns-clause-gathered : goal.returns-clause-gathered
returns-clause-gathered g c = λ limits.
    let l = c.loop-part in
    let sessions_all = take_all c.args.sessions.now l.part (omega (arith, c.loop-part-test.false, l.auto.sessions)) in
    let told_all = take_all (images_of g.D.Disk c.args.disks.now) l.part (omega (arith, c.loop-part-test.false, l.auto.sessions, c.requires.many, length-map c.args.disks.now g.D.Disk.image)) in
    subst (λ (x : List SessionState). AreGathered limits c.args.t c.args.cols x (images_of g.D.Disk c.args.disks.now) l.gathered.items) sessions_all
    (subst (λ (x : List (Option (List ℕ))). AreGathered limits c.args.t c.args.cols (take l.part c.args.sessions.now) x l.gathered.items) told_all (l.invariant.gathered limits))

pub returns-clause-damage : goal.returns-clause-damage
returns-clause-damage g c =
    let l = c.loop-part in
    let sessions_all = take_all c.args.sessions.now l.part (omega (arith, c.loop-part-test.false, l.auto.sessions)) in
    let told_all = take_all (images_of g.D.Disk c.args.disks.now) l.part (omega (arith, c.loop-part-test.false, l.auto.sessions, c.requires.many, length-map c.args.disks.now g.D.Disk.image)) in
    subst (λ (x : List SessionState). AreWhole c.args.t c.args.cols x (images_of g.D.Disk c.args.disks.now)) sessions_all
    (subst (λ (x : List (Option (List ℕ))). AreWhole c.args.t c.args.cols (take l.part c.args.sessions.now) x) told_all l.invariant.whole)
