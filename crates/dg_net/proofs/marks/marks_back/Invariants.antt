use Rattle.std.proofs.Common.{◌≡◌, ◌++◌, drop, length, reverse}
use Rattle.std.specs.List.{flat_map}
use Rattle.dg_graph.specs.declared.event.Event.{Event}
use Rattle.dg_graph.specs.Effect.{removed_by, added_by}
use Rattle.dg_net.specs.EventMarks.{marks_of}
use Rattle.dg_net.proofs.marks.marks_back.Given as goal

abbrev pub invariant-loop-event : goal.invariant-loop-event
invariant-loop-event l =
    l.marks.items ++ flat_map (λ (e : Event). marks_of (added_by e.body) (removed_by e.body)) (drop (length l.yielded) (reverse l.events))
    ≡ flat_map (λ (e : Event). marks_of (added_by e.body) (removed_by e.body)) (reverse l.events)
