-- Where a handle stands in the table.
use Rattle.std.specs.Prelude.{◌≡◌, ℕ, ◌<◌, List, length, slice_index}

-- this is the index of the first of these numbers that is the handle
pub record IsFirst (handle : ℕ) (numbers : List ℕ) (entry_index : ℕ) : Type 0 where
  pub within : entry_index < length numbers
  pub here : slice_index numbers entry_index ≡ handle
  pub before : (k : ℕ) → k < entry_index → slice_index numbers k ≡ handle → ⊥

-- none of these numbers is the handle
abbrev pub NoneIs : ℕ → List ℕ → Type 0
NoneIs handle numbers = (k : ℕ) → k < length numbers → slice_index numbers k ≡ handle → ⊥
