use Rattle.std.proofs.Common.{◌≡◌, ◌+◌, [], drop}
use Rattle.dg_verify.specs.EventTests.{followed}
use Rattle.dg_verify.proofs.own_events.followed.Given as goal

abbrev pub invariant-loop-count : goal.invariant-loop-count
invariant-loop-count l = record {
  none_pending : l.graph.pending ≡ [];
  so_far : followed l.names [] 0 l.events ≡ l.count + followed l.names l.graph.graph l.time (drop l.count l.events);
}
