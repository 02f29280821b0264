use Rattle.std.proofs.Common.{◌≡◌, map, take}
use Rattle.dg_changes.specs.EventChanges.{change_of}
use Rattle.dg_split.proofs.changes.changes_of.Given as goal

abbrev pub invariant-loop-event : goal.invariant-loop-event
invariant-loop-event l = l.changes.items ≡ map change_of (take l.event-index l.events)
