-- The table of live handles as it is kept: each with its set, and the number of the next one.
use Rattle.std.specs.Prelude.{◌≡◌, ℕ, ◌+◌, ◌<◌, List, [], ◌∷◌, ◌++◌, length, slice_index}
use Rattle.dg_graph.specs.declared.element.Element.{Element}

pub record HandleSetsState : Type 0 where
  pub sets : List (ℕ × List Element)
  pub next : ℕ

-- with a new handle for this set
abbrev pub with_next : HandleSetsState → List Element → HandleSetsState
with_next h set = record { sets = h.sets ++ (h.next, set) ∷ []; next = h.next + 1 }

-- this is the place of the first entry with the handle
pub record IsFirstEntry (handle : ℕ) (numbers : List ℕ) (place : ℕ) : Type 0 where
  pub within : place < length numbers
  pub here : slice_index numbers place ≡ handle
  pub before : (k : ℕ) → k < place → slice_index numbers k ≡ handle → ⊥

-- no entry has the handle
abbrev pub NoEntry : ℕ → List ℕ → Type 0
NoEntry handle numbers = (k : ℕ) → k < length numbers → slice_index numbers k ≡ handle → ⊥
