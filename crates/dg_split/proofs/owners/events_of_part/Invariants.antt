use Rattle.std.proofs.Common.{◌≡◌, take}
use Rattle.dg_partition.specs.Owners.{events_of_part}
use Rattle.dg_split.proofs.owners.events_of_part.Given as goal

abbrev pub invariant-loop-event : goal.invariant-loop-event
invariant-loop-event l = l.own.items ≡ events_of_part l.parts l.part (take l.event-index l.events)
