-- How the events of the four columns come together to the events of their list or piece.
use Rattle.std.specs.Prelude.{ℕ, zero, suc, ◌+◌, Bool, true, ◌&&◌, ◌==◌, List, [], ◌∷◌, ◌++◌, Option, Some, None, if◌then◌else◌, find, length, nat_le, option_and_then}
use Rattle.std.specs.Option.{option_map}
use Rattle.dg_graph.specs.declared.event.Event.{Event}
use Rattle.dg_graph.specs.declared.placed.Placed.{Placed}

-- times do not fall, from the earliest on
abbrev pub never_fall : ℕ → List Event → Bool
never_fall earliest [] = true
never_fall earliest (e ∷ events) = nat_le earliest e.time && never_fall e.time events

-- the events at so many positions from n on, or none where one of these positions has no event
abbrev pub at_positions : ℕ → ℕ → List Placed → Option (List Event)
at_positions zero n placed = Some []
at_positions (suc k) n placed =
    option_and_then (λ (p : Placed). option_map (λ (events : List Event). p.event ∷ events) (at_positions k (n + 1) placed))
    (find (λ (p : Placed). p.at == n) placed)

abbrev pub if_never_fall : List Event → Option (List Event)
if_never_fall events = if never_fall 0 events then Some events else None

-- The events of the four columns in the order of their positions: where there are `len` of them, at
-- the positions from 0 to `len - 1`, each once, and their times do not fall.
abbrev pub merged : List Placed → List Placed → List Placed → List Placed → ℕ → Option (List Event)
merged a b c d len =
    if length (a ++ b ++ c ++ d) == len then option_and_then if_never_fall (at_positions len 0 (a ++ b ++ c ++ d)) else None
