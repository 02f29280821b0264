use Rattle.std.proofs.Common.{length}
use Rattle.dg_disk.specs.Image.{PartWritten}
use Rattle.dg_disk.proofs.CrashTold.{told_keeps, told_write}
use Rattle.dg_file.proofs.disk_calls.put_down.Goals as goal

pub returns-in_err-write_at-clause-crash : goal.returns-in_err-write_at-clause-crash
returns-in_err-write_at-clause-crash g c =
    told_write g.D.Disk.moment g.D.Disk.left_since g.D.Disk.may_leave g.met.D.Disk.only_now (g.D.Disk.image c.args.disk.now) c.args.disk.now c.write_at.new.self c.args.offset (length c.args.piece.now) c.requires c.write_at.ensures.crash c.write_at.ensures.time

pub returns-clause-crash : goal.returns-clause-crash
returns-clause-crash g c =
    told_keeps g.D.Disk.moment g.D.Disk.left_since g.D.Disk.may_leave (g.D.Disk.image c.args.disk.now) c.args.disk.now c.write_at.new.self c.sync.new.self (PartWritten c.args.offset (length c.args.piece.now))
    (told_write g.D.Disk.moment g.D.Disk.left_since g.D.Disk.may_leave g.met.D.Disk.only_now (g.D.Disk.image c.args.disk.now) c.args.disk.now c.write_at.new.self c.args.offset (length c.args.piece.now) c.requires c.write_at.ensures.crash c.write_at.ensures.time)
    c.sync.ensures.frame.later c.sync.ensures.frame.since
