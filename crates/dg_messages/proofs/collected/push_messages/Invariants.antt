use Rattle.std.proofs.Common.{◌≡◌, ◌++◌, drop}
use Rattle.dg_messages.specs.Collected.{messages_at}
use Rattle.dg_messages.proofs.collected.push_messages.Given as goal

abbrev pub invariant-loop-event : goal.invariant-loop-event
invariant-loop-event l = l.list.items ++ messages_at l.t (drop l.event-index l.events) ≡ l.initial.list.items ++ messages_at l.t l.events
