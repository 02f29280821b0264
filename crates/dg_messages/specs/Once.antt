-- Instants, each of them once, and what these have given to all.
use Rattle.std.specs.Prelude.{ℕ, ◌==◌, Bool, List, [], ◌∷◌, ◌++◌, if◌then◌else◌, map}
use Rattle.std.specs.List.{list_any}
use Rattle.dg_graph.specs.declared.element.Element.{Element}

-- the instant is one of these
abbrev pub is_among : ℕ → List ℕ → Bool
is_among t instants = list_any (λ u. u == t) instants

-- the instants with this one, which is added where it is not among them
abbrev pub with_instant : ℕ → List ℕ → List ℕ
with_instant t instants = if is_among t instants then instants else instants ++ t ∷ []

abbrev pub once_behind : List ℕ → List ℕ → List ℕ
once_behind instants [] = instants
once_behind instants (t ∷ times) = once_behind (with_instant t instants) times

-- each of the instants once, in the order in which they first come
abbrev pub each_once : List ℕ → List ℕ
each_once times = once_behind [] times

-- the set of the instant, where these instants have these sets
abbrev pub set_of : ℕ → List ℕ → List (List Element) → List Element
set_of t [] sets = []
set_of t (u ∷ instants) [] = []
set_of t (u ∷ instants) (set ∷ sets) = if u == t then set else set_of t instants sets

-- for each of the times its set
abbrev pub sets_for : List ℕ → List (List Element) → List ℕ → List (List Element)
sets_for instants sets times = map (λ t. set_of t instants sets) times
