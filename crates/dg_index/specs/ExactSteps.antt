-- Exact deltas between the nodes of an index, and how interior nodes come of them.
use Rattle.std.specs.Prelude.{ℕ, ◌+◌, List, [], ◌∷◌, map}
use Rattle.dg_graph.specs.Composition.{Delta, between, reversed, chained}
use Rattle.dg_graph.specs.declared.event.Event.{Event}
use Rattle.dg_history.specs.declared.params.Params.{Params}
use Rattle.dg_index.specs.Hierarchy.{numbers, set_at}

-- the deltas from the first of a chain to each further one, by the steps from each to the next, where this
-- leads to the one before them
abbrev pub ways_on : Delta → List Delta → List Delta
ways_on d [] = []
ways_on d (step ∷ steps) = chained d step ∷ ways_on (chained d step) steps

-- the deltas from an interior node to each of its children: to the first, and then to the others
abbrev pub downs : Delta → List Delta → List Delta
downs inner ways = reversed inner ∷ map (λ (d : Delta). chained (reversed inner) d) ways

-- the deltas from the first of a chain to each further one, by the steps from each to the next
abbrev pub ways_of : List Delta → List Delta
ways_of [] = []
ways_of (step ∷ steps) = step ∷ ways_on step steps

-- the exact deltas from each node of a height to the next one, so many of them from this number on
abbrev pub steps_at : Params → List Event → ℕ → ℕ → ℕ → List Delta
steps_at p events h first n = map (λ c. between (set_at p events h c) (set_at p events h (c + 1))) (numbers first n)
