use Rattle.std.proofs.Common.{◌≤◌, [], length, Some, sym, subst, ap, arith, ◌∙◌}
use Rattle.dg_disk.specs.Crash.{LeavesTorn, Passes}
use Rattle.dg_disk.specs.Deeds.{Wrote, Leaves, after_all, settled}
use Rattle.dg_disk.specs.Entries.{deeds_of}
use Rattle.dg_disk.specs.Image.{put_at}
use Rattle.dg_disk.specs.Memory.{DiskState, LeftSince, MayLeave, image_of, moment_of}
use Rattle.dg_disk.proofs.CrashTorn.{put_nothing}
use Rattle.dg_disk.proofs.DeedsLemmas.{Since, torn_to, passes_to, image_to}
use Rattle.dg_disk.proofs.memory.MemoryDiskDisk.write_at.Goals as goal

pub returns-then-start-piece-clause-part : goal.returns-then-start-piece-clause-part
returns-then-start-piece-clause-part c =
    ([], omega arith, ap Some (ap image_of c.self.view_is ∙ sym (put_nothing c.args.offset (image_of c.args.self.now))))

pub invariant_of-self-in-Ok : goal.invariant_of-self-in-Ok
invariant_of-self-in-Ok c =
    let deed = Wrote c.args.offset c.args.piece.now in (
      c.put_piece.ensures.bytes ∙ ap (put_at c.args.offset c.args.piece.now) c.self.invariant.0
          ∙ sym (image_to c.self.inside.first.items (deeds_of c.self.inside.log.items) (deeds_of c.note_write.new.log.items) deed c.in-Ok.ensures.ok),
      omega (arith, c.self.invariant.1, c.put_piece.ensures.capacity),
    )

pub returns-in-Ok-clause-written : goal.returns-in-Ok-clause-written
returns-in-Ok-clause-written c =
    let deed = Wrote c.args.offset c.args.piece.now in
    ap Some (
    image_to c.self.inside.first.items (deeds_of c.self.inside.log.items) (deeds_of c.note_write.new.log.items) deed c.in-Ok.ensures.ok
    ∙ ap (λ (s : DiskState). put_at c.args.offset c.args.piece.now (image_of s)) c.self.view_is
    )

pub returns-in-Ok-clause-crash : goal.returns-in-Ok-clause-crash
returns-in-Ok-clause-crash c =
    let fits : c.args.offset ≤ length (after_all (deeds_of c.self.inside.log.items) (settled c.self.inside.first.items)).image =
    omega (arith, c.requires, ap (λ (s : DiskState). length (image_of s)) c.self.view_is) in
    subst (λ (s : DiskState). LeavesTorn c.args.offset (length c.args.piece.now) (MayLeave s) (Leaves (after_all (deeds_of c.note_write.new.log.items) (settled c.self.inside.first.items)))) c.self.view_is (torn_to c.self.inside.first.items (deeds_of c.self.inside.log.items) (deeds_of c.note_write.new.log.items) c.args.offset c.args.piece.now c.in-Ok.ensures.ok fits)

pub returns-in-Ok-clause-time : goal.returns-in-Ok-clause-time
returns-in-Ok-clause-time c =
    let first = c.self.inside.first.items in
    let new = deeds_of c.note_write.new.log.items in
    subst (λ (s : DiskState). Passes (moment_of s) (length new) (LeftSince s) (Since first new) (Leaves (after_all new (settled first)))) c.self.view_is (passes_to first (deeds_of c.self.inside.log.items) new (Wrote c.args.offset c.args.piece.now) c.in-Ok.ensures.ok)
