use Rattle.std.proofs.Common.{◌≡◌, ◌+◌, ◌≤◌, length, drop}
use Rattle.std.specs.Vec.{vec_capacity}
use Rattle.dg_graph.specs.CompletedChanges.{completed}
use Rattle.dg_current.specs.EventEffect.{Led}
use Rattle.dg_current.proofs.EventEffectChanges.{onto, all_changes}
use Rattle.dg_current.proofs.event_effect.complete_all.Given as goal

abbrev pub invariant-loop-change : goal.invariant-loop-change
invariant-loop-change l = record {
  line : l.line ≡ l.change-index;
  led : Led l.initial.graph.set l.events.items l.graph;
  due : completed 1 l.fn.earliest l.initial.graph.set (all_changes l.changes)
      ≡ onto l.events.items (completed (l.line + 1) l.from l.graph.set (all_changes (drop l.change-index l.changes)));
  count : length l.events.items ≡ l.change-index;
  capacity : length l.changes ≤ vec_capacity l.events;
}
