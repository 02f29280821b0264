use Rattle.std.proofs.Common.{sym}
use Rattle.dg_part_runs.proofs.TableEntries.{missed_in, set_in}
use Rattle.dg_part_runs.proofs.handle_sets.HandleSets.set.Goals as goal

pub returns-in-None : goal.returns-in-None
returns-in-None c =
    let missed = missed_in c.args.handle c.args.self.now c.self.inside.held.items c.deref.result.now c.self.inside.next c.self.view_is c.deref.ensures.value c.in-None.ensures.none in
    sym missed.set

pub returns-in-Some : goal.returns-in-Some
returns-in-Some c =
    sym (set_in c.args.handle c.args.self.now c.self.inside.held.items c.deref.result.now c.self.inside.next c.self.view_is c.deref.ensures.value c.in-Some.place c.in-Some.ensures.some c.index.result.now c.index.ensures)
