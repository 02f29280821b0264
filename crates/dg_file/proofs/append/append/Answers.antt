use Rattle.std.proofs.Common.{◌-◌, ◌≤◌, ◌++◌, ◌∷◌, [], length, inl, arith}
use Rattle.dg_disk.specs.Image.{PartWritten}
use Rattle.std.proofs.lemmas.Result.{on_ok_weaker, on_err_weaker}
use Rattle.dg_index.specs.FileOfHistory.{blobs}
use Rattle.dg_file.specs.Growth.{Grown, KeepsFront, GatedOrNot}
use Rattle.dg_file.proofs.GrowthMoves.{moved_after, moved_weaker, on_err_any, gate_opened, gate_left}
use Rattle.dg_file.proofs.GrowthCrashes.{gate_torn, told_behind, told_then}
use Rattle.dg_file.proofs.TidyWrites.{just_opened}
use Rattle.dg_file.proofs.append.append.Goals as goal

pub put_down-requires : goal.put_down-requires
put_down-requires g c =
    moved_after _ _ (KeepsFront c.args.used) (λ b. c.args.used - 1 ≤ length b) (λ a b k. omega (arith, k.reach)) c.write_segment.ensures.part

pub returns-in_err-write_segment-clause-part : goal.returns-in_err-write_segment-clause-part
returns-in_err-write_segment-clause-part g c =
    on_err_any c.from_residual.result (moved_weaker _ _ (KeepsFront c.args.used) (GatedOrNot c.args.used (c.args.head.now ++ blobs c.args.segment.now)) (λ a b k. inl k) c.write_segment.ensures.part)

pub returns-clause-part : goal.returns-clause-part
returns-clause-part g c =
    on_err_weaker c.put_down.result (gate_left _ _ _ c.args.used (c.args.head.now ++ blobs c.args.segment.now) c.requires.some c.in_ok-write_segment.ensures.written) c.put_down.ensures.part

pub returns-clause-written : goal.returns-clause-written
returns-clause-written g c =
    on_ok_weaker c.put_down.result (gate_opened _ _ _ c.args.used 1 (c.args.head.now ++ blobs c.args.segment.now) c.requires.some c.in_ok-write_segment.ensures.written) c.put_down.ensures.written

pub returns-in_err-write_segment-clause-crash : goal.returns-in_err-write_segment-clause-crash
returns-in_err-write_segment-clause-crash g c =
    told_behind g.D.Disk.moment g.D.Disk.left_since g.D.Disk.may_leave (g.D.Disk.image c.args.disk.now) c.args.disk.now c.write_segment.new.disk c.args.used (c.args.head.now ++ blobs c.args.segment.now) c.requires.offset c.write_segment.ensures.crash

pub returns-clause-crash : goal.returns-clause-crash
returns-clause-crash g c =
    let text = c.args.head.now ++ blobs c.args.segment.now in
    told_then g.D.Disk.moment g.D.Disk.left_since g.D.Disk.may_leave (g.D.Disk.image c.args.disk.now) (g.D.Disk.image c.write_segment.new.disk) c.args.disk.now c.write_segment.new.disk c.put_down.new.disk
    (Grown c.args.used (text ++ 0 ∷ [])) (PartWritten (c.args.used - 1) 1) (GatedOrNot c.args.used text) (λ a b e grown part. gate_torn c.args.used text a b e c.requires.some grown part) c.in_ok-write_segment.ensures.written
    (told_behind g.D.Disk.moment g.D.Disk.left_since g.D.Disk.may_leave (g.D.Disk.image c.args.disk.now) c.args.disk.now c.write_segment.new.disk c.args.used (c.args.head.now ++ blobs c.args.segment.now) c.requires.offset c.write_segment.ensures.crash) c.in_ok-write_segment.ensures.settled c.put_down.ensures.crash

pub returns-clause-exact : goal.returns-clause-exact
returns-clause-exact g c =
    on_ok_weaker c.put_down.result
    (just_opened _ _ _ c.args.used 1 (c.args.head.now ++ blobs c.args.segment.now) c.requires.some c.in_ok-write_segment.ensures.written c.in_ok-write_segment.ensures.ends) c.put_down.ensures.written
