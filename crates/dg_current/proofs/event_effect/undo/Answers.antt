use Rattle.std.proofs.Common.{List, [], ◌∷◌, ◌++◌, subst}
use Rattle.dg_graph.specs.declared.event.Event.{Event}
use Rattle.dg_current.specs.EventEffect.{Led, rewound}
use Rattle.dg_current.proofs.EventEffectChanges.{last_came, last_known, led_less}
use Rattle.dg_current.proofs.event_effect.undo.Goals as goal
use Rattle.dg_current.proofs.event_effect.undo.Goals.{In-Some}

-- the events that are left and the last one, which is undone, led to the graph
led : (c : In-Some) → Led (rewound c.args.graph.now.set c.args.events.now.items) (c.pop.new.self.items ++ c.in-Some.event ∷ []) c.loop-event.graph
led c =
    subst (λ (es : List Event). Led (rewound c.args.graph.now.set c.args.events.now.items) es c.loop-event.graph)
    c.in-Some.ensures.items c.loop-event.invariant.led

pub undo_one-requires-clause-came : goal.undo_one-requires-clause-came
undo_one-requires-clause-came c =
    last_came (rewound c.args.graph.now.set c.args.events.now.items) c.pop.new.self.items c.loop-event.graph c.in-Some.event
    (led (goal.at.undo_one-requires-clause-came c).In-Some)

pub undo_one-requires-clause-known : goal.undo_one-requires-clause-known
undo_one-requires-clause-known c =
    last_known (rewound c.args.graph.now.set c.args.events.now.items) c.pop.new.self.items c.loop-event.graph c.in-Some.event
    (led (goal.at.undo_one-requires-clause-known c).In-Some)

pub loop-event-preserved : goal.loop-event-preserved
loop-event-preserved c = record {
  led =
      led_less (rewound c.args.graph.now.set c.args.events.now.items) c.pop.new.self.items c.loop-event.graph c.in-Some.event
      (led (goal.at.loop-event-preserved c).In-Some) c.undo_one.new.graph c.undo_one.ensures.set c.undo_one.ensures.keeps;
}
