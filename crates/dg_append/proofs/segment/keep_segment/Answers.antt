use Rattle.std.proofs.Common.{inl, ◌≡◌, ◌∙◌, refl, ap, subst, sym, Result, Err}
use Rattle.std.specs.Prelude.{IfSome}
use Rattle.dg_append.proofs.segment.keep_segment.Goals as goal
use Rattle.dg_file.specs.declared.fault.CommitFault.{CommitFault}
use Rattle.dg_file.specs.Calls.{CommitsPart, CommitsSegment}
use Rattle.dg_disk.proofs.CrashTold.{told_starts}
use Rattle.dg_disk.specs.Calls.{LeftByCrash}
use Rattle.dg_file.specs.Images.{Fits, GainsBatchOrNot}
use Rattle.dg_file.specs.Index.{IndexState}
use Rattle.dg_index.specs.FileOfHistory.{Segment}
use Rattle.dg_index.specs.IndexGrowth.{IsDue, needed_for}
use Rattle.dg_index.specs.OpenedIndex.{Opening}

failed_by : (x y : CommitFault) → x ≡ y → ◌≡◌ {A = Result (Unit {0}) CommitFault} (Err x) (Err y)
failed_by x y same = ap (λ (f : CommitFault). Err f) same

-- What the segment is prepared over: the index is what it was, and the segment is the same.
over : {o p : Opening} {s t : Segment} → o ≡ p → s ≡ t → ◌≡◌ {A = Opening × Segment} (o, s) (p, t)
over index segment i = (index i, segment i)

pub commit-requires-clause-due : goal.commit-requires-clause-due
commit-requires-clause-due g c = subst (λ (x : Opening × Segment). IsDue x.0 x.1) (sym (over c.in_ok-prepared.ensures.same c.in_ok-prepared.ensures.prepared)) c.requires.due

pub commit-requires-clause-image : goal.commit-requires-clause-image
commit-requires-clause-image g c =
    subst (λ (x : Opening × Segment). IfSome (g.D.Disk.image c.args.disk.now) (λ image. Fits image x.0 x.1)) (sym (over c.in_ok-prepared.ensures.same c.in_ok-prepared.ensures.prepared)) c.requires.image

pub returns-in-Ok-clause-kept : goal.returns-in-Ok-clause-kept
returns-in-Ok-clause-kept g c =
    subst (λ (x : Opening × Segment). CommitsSegment g.D.Disk c.args.limit x.0 x.1 c.commit.new.self.opening c.args.disk.now c.commit.new.disk) (over c.in_ok-prepared.ensures.same c.in_ok-prepared.ensures.prepared) c.in-Ok.ensures.done

pub returns-in-Err-FileFull-clause-fails : goal.returns-in-Err-FileFull-clause-fails
returns-in-Err-FileFull-clause-fails g c =
    let full = c.in-Err-FileFull.ensures.full c.in-Err-FileFull.needed (failed_by c.in-Err-FileFull.field-0 _ c.in-Err-FileFull.field-0-is) in (
      full.needed ∙ (λ i. needed_for (c.in_ok-prepared.ensures.same i) (c.in_ok-prepared.ensures.prepared i)),
      refl,
      full.over,
      ap (λ (x : IndexState). x.opening) full.index ∙ c.in_ok-prepared.ensures.same,
      full.disk,
    )

pub returns-in-Err-Disk-clause-fails : goal.returns-in-Err-Disk-clause-fails
returns-in-Err-Disk-clause-fails g c =
    subst (λ (x : Opening × Segment). CommitsPart g.D.Disk c.args.limit x.0 x.1 c.args.disk.now c.commit.new.disk) (over c.in_ok-prepared.ensures.same c.in_ok-prepared.ensures.prepared)
    (c.in-Err-Disk.ensures.part (failed_by c.in-Err-Disk.field-0 _ c.in-Err-Disk.field-0-is))

pub returns-in_err-prepared-clause-crash : goal.returns-in_err-prepared-clause-crash
returns-in_err-prepared-clause-crash g c =
    told_starts g.D.Disk.moment g.D.Disk.left_since g.D.Disk.may_leave g.met.D.Disk.only_now (g.D.Disk.image c.args.disk.now) c.args.disk.now
    (λ image. Fits image c.args.index.now.opening c.args.segment) (GainsBatchOrNot c.args.segment) (λ a fits z b h legal is. inl h) c.requires.image

pub returns-in-Ok-clause-crash : goal.returns-in-Ok-clause-crash
returns-in-Ok-clause-crash g c = subst (λ (s : Segment). LeftByCrash g.D.Disk c.args.disk.now c.commit.new.disk (GainsBatchOrNot s)) c.in_ok-prepared.ensures.prepared c.commit.ensures.crash

pub returns-in-Err-FileFull-clause-crash : goal.returns-in-Err-FileFull-clause-crash
returns-in-Err-FileFull-clause-crash g c = subst (λ (s : Segment). LeftByCrash g.D.Disk c.args.disk.now c.commit.new.disk (GainsBatchOrNot s)) c.in_ok-prepared.ensures.prepared c.commit.ensures.crash

pub returns-in-Err-Disk-clause-crash : goal.returns-in-Err-Disk-clause-crash
returns-in-Err-Disk-clause-crash g c = subst (λ (s : Segment). LeftByCrash g.D.Disk c.args.disk.now c.commit.new.disk (GainsBatchOrNot s)) c.in_ok-prepared.ensures.prepared c.commit.ensures.crash
