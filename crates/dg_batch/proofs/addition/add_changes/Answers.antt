use Rattle.dg_batch.proofs.HeldChanges.{held_added, held_back}
use Rattle.dg_batch.proofs.addition.add_changes.Goals as goal

pub returns-in-Ok-clause-held : goal.returns-in-Ok-clause-held
returns-in-Ok-clause-held g c =
    held_added c.law_tie_is_kept.ensures c.args.batch c.args.held.now c.add_batch.new.live c.requires.may c.requires.handles c.args.limit (g.D.Disk.image c.args.disk.now) (g.D.Disk.image c.add_batch.new.disk) c.in-Ok.added
    c.have_lists.ensures c.in-Ok.ensures.adds c.in-Ok.ensures.live

pub returns-else-is_lost-clause-held : goal.returns-else-is_lost-clause-held
returns-else-is_lost-clause-held g c =
    held_back c.law_tie_is_kept.ensures c.args.batch c.args.held.now c.add_batch.new.live c.requires.may c.requires.handles c.in-Err.fault (c.is_lost.ensures.kept c.if-is_lost.false) c.in-Err.ensures.back c.in-Err.ensures.live
