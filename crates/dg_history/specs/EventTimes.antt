-- Events in the order of time.
use Rattle.std.specs.Prelude.{ℕ, ◌≤◌, List, [], ◌∷◌}
use Rattle.dg_graph.specs.declared.event.Event.{Event}

-- no event is earlier than the one before it, nor the first than this time
abbrev pub RisesFrom : ℕ → List Event → Type 0
RisesFrom floor [] = Unit {0}
RisesFrom floor (e ∷ events) = (floor ≤ e.time) × RisesFrom e.time events
