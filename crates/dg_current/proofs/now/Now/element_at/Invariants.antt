use Rattle.std.proofs.Common.{◌≡◌, drop}
use Rattle.dg_current.specs.ElementIds.{at}
use Rattle.dg_current.specs.EventEffect.{element_before_all}
use Rattle.dg_current.proofs.now.Now.element_at.Given as goal

abbrev pub invariant-loop-event : goal.invariant-loop-event
invariant-loop-event l =
    let last = at l.self-inside.held.set l.id in
    element_before_all l.self-inside.pending.items l.id last ≡ element_before_all (drop l.event-index l.self-inside.pending.items) l.id last
