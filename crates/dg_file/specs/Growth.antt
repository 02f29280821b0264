-- How writes change a disk's image.
use Rattle.std.specs.Prelude.{◌≡◌, ◌⊎◌, ℕ, ◌-◌, ◌≤◌, ◌+◌, List, ◌∷◌, [], ◌++◌, Option, Some, None, length, take}

-- The disk tells its image before and after, and the fact holds of the two; or it tells neither.
abbrev pub Moved : Option (List ℕ) → Option (List ℕ) → (List ℕ → List ℕ → Type 0) → Type 0
Moved None None P = Unit {0}
Moved None (Some after) P = ⊥
Moved (Some before) None P = ⊥
Moved (Some before) (Some after) P = P before after

-- the bytes before the offset are as they were, and the bytes reach up to it
pub record KeepsFront (offset : ℕ) (before after : List ℕ) : Type 0 where
  pub same : take offset after ≡ take offset before
  pub reach : offset ≤ length after

-- the bytes reached up to the offset, and now the piece stands behind those before it
pub record Grown (offset : ℕ) (piece before after : List ℕ) : Type 0 where
  pub reached : offset ≤ length before
  pub rest : List ℕ
  pub is : after ≡ take offset before ++ (piece ++ rest)

-- behind the bytes before the offset stand this gate, the text and a closed gate
pub record Gated (offset gate : ℕ) (text before after : List ℕ) : Type 0 where
  pub rest : List ℕ
  pub is : after ≡ take offset before ++ gate ∷ (text ++ 0 ∷ rest)

-- where no byte stood behind the offset, none stands further behind it than so many
abbrev pub EndsBy : ℕ → ℕ → List ℕ → List ℕ → Type 0
EndsBy offset many before after = length before ≤ offset → length after ≤ offset + many

-- where the gate was the last byte, nothing stands behind the text and the closed gate that are now behind it
abbrev pub JustGated : ℕ → ℕ → List ℕ → List ℕ → List ℕ → Type 0
JustGated offset gate text before after = length before ≤ offset + 1 → after ≡ take offset before ++ gate ∷ (text ++ 0 ∷ [])

-- what a failure leaves: the gate is as it was, or it has any byte and the text is behind it
abbrev pub GatedOrNot : ℕ → List ℕ → List ℕ → List ℕ → Type 0
GatedOrNot used text before after = KeepsFront used before after ⊎ ((gate : ℕ) × Gated (used - 1) gate text before after)
