use Rattle.std.proofs.Common.{length, rules, Some, sym, subst, ap, ◌∙◌}
use Rattle.dg_disk.specs.Crash.{LeavesNoMore, Passes}
use Rattle.dg_disk.specs.Deeds.{Synced, Leaves, after_all, settled}
use Rattle.dg_disk.specs.Entries.{deeds_of}
use Rattle.dg_disk.specs.Memory.{DiskState, LeftSince, MayLeave, image_of, moment_of, present_counts}
use Rattle.dg_disk.proofs.CrashLeavesOnly.{since_sync}
use Rattle.dg_disk.proofs.DeedsLemmas.{Since, no_more_to, settled_to, passes_to, image_to}
use Rattle.dg_disk.proofs.memory.MemoryDiskDisk.sync.Goals as goal

pub invariant_of-self-in-Ok : goal.invariant_of-self-in-Ok
invariant_of-self-in-Ok c = (
  c.self.invariant.0 ∙ sym (image_to c.self.inside.first.items (deeds_of c.self.inside.log.items) (deeds_of c.note.new.log.items) Synced c.in-Ok.ensures.ok),
  c.self.invariant.1,
)

pub returns-in-Ok-clause-settled : goal.returns-in-Ok-clause-settled
returns-in-Ok-clause-settled c =
    settled_to c.self.inside.first.items (deeds_of c.self.inside.log.items) (deeds_of c.note.new.log.items) c.in-Ok.ensures.ok

pub returns-in-Ok-clause-time : goal.returns-in-Ok-clause-time
returns-in-Ok-clause-time c =
    let first = c.self.inside.first.items in
    let new = deeds_of c.note.new.log.items in
    subst (λ (s : DiskState). Passes (moment_of s) (length new) (LeftSince s) (Since first new) (Leaves (after_all new (settled first)))) c.self.view_is (passes_to first (deeds_of c.self.inside.log.items) new Synced c.in-Ok.ensures.ok)

pub returns-in-Ok-clause-frame : goal.returns-in-Ok-clause-frame
returns-in-Ok-clause-frame c =
    let first = c.self.inside.first.items in
    let new = deeds_of c.note.new.log.items in
    let leaves : LeavesNoMore (MayLeave c.args.self.now) (Leaves (after_all new (settled first))) =
    subst (λ (s : DiskState). LeavesNoMore (MayLeave s) (Leaves (after_all new (settled first)))) c.self.view_is (no_more_to first (deeds_of c.self.inside.log.items) new c.in-Ok.ensures.ok) in
    let time = returns-in-Ok-clause-time c in
    record {
      same_image = ap Some (image_to first (deeds_of c.self.inside.log.items) new Synced c.in-Ok.ensures.ok ∙ ap image_of c.self.view_is);
      counted = search rules;
      writes_counted = search rules;
      cache_counted = search rules;
      later = time.later;
      leaves = leaves;
      since = since_sync _ _ _ _ _ _ time leaves (present_counts c.args.self.now);
    }
