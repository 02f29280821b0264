-- The row of the slots of a list of events, as the columns fill it.
use Rattle.std.specs.Prelude.{ℕ, ◌+◌, ◌==◌, List, [], ◌∷◌, Option, Some, find}
use Rattle.std.specs.Option.{option_map, option_or, option_and_then}
use Rattle.dg_graph.specs.declared.event.Event.{Event}
use Rattle.dg_graph.specs.declared.placed.Placed.{Placed}

-- the first event at the position
abbrev pub event_at : ℕ → List Placed → Option Event
event_at n placed = option_map (λ (p : Placed). p.event) (find (λ (p : Placed). p.at == n) placed)

-- the slots from n on, where each empty one takes the event at its position
abbrev pub filled : ℕ → List (Option Event) → List Placed → List (Option Event)
filled n [] placed = []
filled n (slot ∷ row) placed = option_or slot (event_at n placed) ∷ filled (n + 1) row placed

-- the events of the slots, or none where one of them is empty
abbrev pub events_in_row : List (Option Event) → Option (List Event)
events_in_row [] = Some []
events_in_row (slot ∷ row) =
    option_and_then (λ (e : Event). option_map (λ (events : List Event). e ∷ events) (events_in_row row)) slot
