use Rattle.std.proofs.Common.{◌≡◌, ◌++◌, drop}
use Rattle.dg_net.proofs.ExactEventNets.{all_removed, all_added}
use Rattle.dg_net.proofs.exact.effects.Given as goal

abbrev pub invariant-loop-event : goal.invariant-loop-event
invariant-loop-event l = record {
  out : l.all_removed.items ++ all_removed (drop l.event-index l.events) ≡ all_removed l.events;
  into : l.all_added.items ++ all_added (drop l.event-index l.events) ≡ all_added l.events;
}
