use Rattle.std.proofs.Common.{◌≡◌, ◌+◌, ◌++◌, List, [], map, drop}
use Rattle.dg_graph.specs.declared.event.Event.{Event}
use Rattle.dg_index.specs.declared.entry.Ends.{Ends}
use Rattle.dg_graph.specs.Replay.{replay_from}
use Rattle.dg_start.specs.RecentEvents.{first_wrong_event}
use Rattle.dg_start.proofs.current_graph.wrong_within.Given as goal

abbrev pub invariant-loop-event : goal.invariant-loop-event
invariant-loop-event l = record {
  none_pending : l.current.pending ≡ [];
  number : l.number ≡ l.first + l.event-index;
  led : replay_from l.current.graph (drop l.event-index l.events) ≡ replay_from l.fn.current.graph l.events;
  so_far : (more : List (Ends × Event))
      → first_wrong_event l.names l.first l.fn.current.graph (map (λ (e : Event). (l.ends, e)) l.events ++ more)
      ≡ first_wrong_event l.names l.number l.current.graph (map (λ (e : Event). (l.ends, e)) (drop l.event-index l.events) ++ more);
}
