use Rattle.std.proofs.Common.{◌≡◌, ◌++◌, drop, filter}
use Rattle.std.specs.List.{flat_map}
use Rattle.dg_graph.specs.declared.event.Event.{Event}
use Rattle.dg_graph.specs.Effect.{removed_by, added_by}
use Rattle.dg_net.specs.Lists.{counts}
use Rattle.dg_net.specs.EventMarks.{marks_of}
use Rattle.dg_net.proofs.marks.marks_on.Given as goal

abbrev pub invariant-loop-event : goal.invariant-loop-event
invariant-loop-event l =
    l.marks.items ++ flat_map (λ (e : Event). marks_of (removed_by e.body) (added_by e.body)) (filter (counts l.until) (drop l.event-index l.events))
    ≡ flat_map (λ (e : Event). marks_of (removed_by e.body) (added_by e.body)) (filter (counts l.until) l.events)
