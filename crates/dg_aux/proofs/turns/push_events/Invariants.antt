use Rattle.std.proofs.Common.{◌≡◌, ◌+◌, ◌*◌, ◌≤◌, ◌++◌, drop, length, vec_len, vec_capacity}
use Rattle.dg_aux.specs.Turns.{turns_of}
use Rattle.dg_aux.proofs.turns.push_events.Given as goal

abbrev pub invariant-loop-event : goal.invariant-loop-event
invariant-loop-event l = record {
  items : l.turns.items ++ turns_of l.key (drop l.event-index l.events) ≡ l.fn.turns.items ++ turns_of l.key l.events;
  capacity : vec_capacity l.turns ≡ vec_capacity l.fn.turns;
  len : vec_len l.turns ≤ vec_len l.fn.turns + 2 * l.event-index;
}
