use Rattle.std.proofs.Common.{vec_len}
use Rattle.dg_current.specs.EventEffect.{Led, rewound}
use Rattle.dg_current.proofs.event_effect.undo.Given as goal

abbrev pub invariant-loop-event : goal.invariant-loop-event
invariant-loop-event l = record { led : Led (rewound l.initial.graph.set l.initial.events.items) l.events.items l.graph }

abbrev pub decreases-loop-event : goal.decreases-loop-event
decreases-loop-event l = vec_len l.events
