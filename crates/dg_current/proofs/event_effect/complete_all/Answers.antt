use Rattle.std.proofs.Common.{◌≡◌, ◌+◌, List, [], ◌∷◌, ◌++◌, length, drop, slice_index_or, is_ok, if◌then◌else◌, rules, sym, ap, subst, ◌∙◌, arith, length-append}
use Rattle.dg_graph.specs.declared.event.Change.{Change}
use Rattle.dg_graph.specs.declared.event.Event.{Event}
use Rattle.dg_graph.specs.declared.event.What.TheVariants as what
use Rattle.dg_graph.specs.CompletedChanges.{completed}
use Rattle.dg_current.specs.EventEffect.{Led}
use Rattle.dg_current.proofs.EventEffectCompletions.{event_happens}
use Rattle.dg_current.proofs.EventEffect.{led_is_graph}
use Rattle.dg_current.proofs.EventEffectChanges.{onto, all_changes, goes_on_at, led_more, led_still}
use Rattle.dg_current.proofs.event_effect.complete_all.Goals as goal

-- what an index past the list reads as
abbrev past : Change
past = record { time = 0; what = what.AddNode 0 }

pub apply-requires-clause-graph : goal.apply-requires-clause-graph
apply-requires-clause-graph c =
    led_is_graph c.args.graph.now.set c.loop-change.events.items c.loop-change.graph c.loop-change.invariant.led

pub apply-requires-clause-happens : goal.apply-requires-clause-happens
apply-requires-clause-happens c =
    event_happens c.loop-change.graph.set
    (led_is_graph c.args.graph.now.set c.loop-change.events.items c.loop-change.graph c.loop-change.invariant.led) c.loop-change.from (slice_index_or c.args.changes.now c.loop-change.change-index past) c.in-Ok.event (sym c.in-Ok.ensures)

pub loop-change-preserved : goal.loop-change-preserved
loop-change-preserved c =
    let start = c.args.graph.now.set in
    let old = c.loop-change in
    let events = old.events.items in
    let e = c.in-Ok.event in
    let changes = c.args.changes.now in
    let pushed : c.push.new.self.items ≡ events ++ e ∷ [] =
    c.push.ensures.items ∙ ap (λ r. if is_ok r then events ++ e ∷ [] else events) c.unwrap.ensures in
    let happens = event_happens old.graph.set (led_is_graph start events old.graph old.invariant.led) old.from (slice_index_or changes old.change-index past) e (sym c.in-Ok.ensures) in
    let due =
    goes_on_at (completed 1 c.args.earliest start (all_changes changes)) events (old.line + 1) old.from old.graph.set changes old.change-index past
    c.loop-change-test.true old.invariant.due e (sym c.in-Ok.ensures) in
    let longer : length c.push.new.self.items ≡ length events + 1 = ap length pushed ∙ length-append events (e ∷ []) in
    record {
      line = omega arith;
      led = subst (λ (es : List Event). Led start es c.apply.new.graph) (sym pushed)
          (led_more start events old.graph c.apply.new.graph e old.invariant.led happens c.in_ok-apply.ensures.set c.in_ok-apply.ensures.keeps c.in_ok-apply.ensures.known);
      due = due ∙ (λ i. onto (sym pushed i) (completed (old.line + 1 + 1) e.time (sym c.in_ok-apply.ensures.set i) (all_changes (drop (old.change-index + 1) changes))));
      count = omega arith;
      capacity = search rules;
    }

pub returns-in_err-apply-clause-led : goal.returns-in_err-apply-clause-led
returns-in_err-apply-clause-led c =
    led_still c.args.graph.now.set c.loop-change.events.items c.loop-change.graph c.apply.new.graph c.loop-change.invariant.led c.in_err-apply.ensures.err c.in_err-apply.ensures.keeps
