-- Which events of a list count.
use Rattle.std.specs.Prelude.{ℕ, Bool, true, Option, Some, None, nat_le}
use Rattle.dg_graph.specs.declared.event.Event.{Event}

-- the event is up to the instant; where there is none, each event is
abbrev pub counts : Option ℕ → Event → Bool
counts None e = true
counts (Some t) e = nat_le e.time t
