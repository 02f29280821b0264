use Rattle.std.proofs.Common.{◌∙◌, [], ap, map, sym}
use Rattle.std.specs.Prelude.{is_some}
use Rattle.dg_part_runs.proofs.TableEntries.{entry_of, found_in, missed_in, removed_in}
use Rattle.dg_part_runs.proofs.handle_sets.HandleSets.release.Goals as goal

pub returns-in-Some-clause-live : goal.returns-in-Some-clause-live
returns-in-Some-clause-live c =
    let found = found_in c.args.handle c.args.self.now c.self.inside.held.items c.deref.result.now c.self.inside.next c.self.view_is c.deref.ensures.value c.in-Some.place c.in-Some.ensures.some in
    sym (ap is_some (found.set (0, [])))

pub returns-in-Some-clause-sets : goal.returns-in-Some-clause-sets
returns-in-Some-clause-sets c =
    ap (map entry_of) c.remove.ensures.items
    ∙ removed_in c.args.handle c.args.self.now c.self.inside.held.items c.deref.result.now c.self.inside.next c.self.view_is c.deref.ensures.value c.in-Some.place c.in-Some.ensures.some

pub returns-in-None-clause-live : goal.returns-in-None-clause-live
returns-in-None-clause-live c =
    let missed = missed_in c.args.handle c.args.self.now c.self.inside.held.items c.deref.result.now c.self.inside.next c.self.view_is c.deref.ensures.value c.in-None.ensures.none in
    sym (ap is_some missed.set)

pub returns-in-None-clause-sets : goal.returns-in-None-clause-sets
returns-in-None-clause-sets c =
    let missed = missed_in c.args.handle c.args.self.now c.self.inside.held.items c.deref.result.now c.self.inside.next c.self.view_is c.deref.ensures.value c.in-None.ensures.none in
    sym missed.without
