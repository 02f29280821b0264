-- Four columns whose positions rise, taken together event by event.
use Rattle.std.specs.Prelude.{ℕ, zero, suc, ◌+◌, ◌==◌, Bool, false, List, [], ◌∷◌, Option, Some, None, if◌then◌else◌, nat_le, option_and_then}
use Rattle.std.specs.Option.{option_map, option_or}
use Rattle.dg_graph.specs.declared.event.Event.{Event}
use Rattle.dg_graph.specs.declared.placed.Placed.{Placed}

-- the event at a position, and what is left of the columns behind it
pub record MergeStep : Type 0 where
  pub here : Placed
  pub structure : List Placed
  pub node_attrs : List Placed
  pub edge_attrs : List Placed
  pub transient : List Placed

-- the first event of a column, where it stands at the position, and the others
abbrev pub head_at : ℕ → List Placed → (Placed → List Placed → MergeStep) → Option MergeStep
head_at n [] make = None
head_at n (p ∷ rest) make = if p.at == n then Some (make p rest) else None

-- the first event of the list stands at the position
abbrev pub stands_first : ℕ → List Placed → Bool
stands_first n [] = false
stands_first n (p ∷ rest) = p.at == n

abbrev pub step_at : ℕ → List Placed → List Placed → List Placed → List Placed → Option MergeStep
step_at n a b c d =
    option_or (head_at n a (λ p rest. record { here = p; structure = rest; node_attrs = b; edge_attrs = c; transient = d }))
    (option_or (head_at n b (λ p rest. record { here = p; structure = a; node_attrs = rest; edge_attrs = c; transient = d }))
    (option_or (head_at n c (λ p rest. record { here = p; structure = a; node_attrs = b; edge_attrs = rest; transient = d }))
    (head_at n d (λ p rest. record { here = p; structure = a; node_attrs = b; edge_attrs = c; transient = rest }))))

-- so many events from the position and the earliest instant on, or none where a position has no event
-- at the head of a column, or a time falls
abbrev pub walked : ℕ → ℕ → ℕ → List Placed → List Placed → List Placed → List Placed → Option (List Event)
walked zero n earliest a b c d = Some []
walked (suc k) n earliest a b c d =
    option_and_then (λ (s : MergeStep).
    if nat_le earliest s.here.event.time
    then option_map (λ (events : List Event). s.here.event ∷ events) (walked k (n + 1) s.here.event.time s.structure s.node_attrs s.edge_attrs s.transient)
    else None) (step_at n a b c d)
