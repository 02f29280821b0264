use Rattle.std.proofs.Common.{sym, ◌∙◌, arith}
use Rattle.dg_graph.specs.declared.event.Body.TheVariants.{NodeAdded}
use Rattle.dg_start.proofs.RecentEventFaults.{led_here, right_here, wrong_here}
use Rattle.dg_start.proofs.current_graph.wrong_within.Goals as goal

pub returns-then-not-is_right-clause-wrong : goal.returns-then-not-is_right-clause-wrong
returns-then-not-is_right-clause-wrong c more =
    c.loop-event.invariant.so_far more
    ∙ wrong_here c.args.names.now c.args.ends c.loop-event.number c.loop-event.event-index c.loop-event.current.graph c.args.events.now (record { time = 0; body = NodeAdded 0 }) more
    c.loop-event-test.true (sym c.in_ok-is_right.ensures.right ∙ c.if-not-is_right.true)

pub loop-event-preserved : goal.loop-event-preserved
loop-event-preserved c =
    let on = c.in_ok-is_right.ensures.on c.if-not-is_right.false in
    record {
      none_pending = c.follow.ensures.none;
      number = omega (arith, c.loop-event.invariant.number);
      led = led_here c.loop-event.event-index c.loop-event.current.graph c.follow.new.current.graph c.args.events.now (record { time = 0; body = NodeAdded 0 }) c.loop-event-test.true on
          ∙ c.loop-event.invariant.led;
      so_far = λ more.
          c.loop-event.invariant.so_far more
          ∙ right_here c.args.names.now c.args.ends c.loop-event.number c.loop-event.event-index c.loop-event.current.graph c.follow.new.current.graph c.args.events.now (record { time = 0; body = NodeAdded 0 }) more
          c.loop-event-test.true (sym c.in_ok-is_right.ensures.right ∙ c.if-not-is_right.false) on;
    }
