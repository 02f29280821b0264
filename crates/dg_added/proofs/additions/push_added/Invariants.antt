use Rattle.std.proofs.Common.{◌≡◌, ◌++◌, drop}
use Rattle.dg_added.specs.PutIn.{put_within}
use Rattle.dg_added.proofs.additions.push_added.Given as goal

abbrev pub invariant-loop-event : goal.invariant-loop-event
invariant-loop-event l = l.put.items ++ put_within l.from l.until (drop l.event-index l.events) ≡ l.fn.put.items ++ put_within l.from l.until l.events
