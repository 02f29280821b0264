-- What an object of the outside tells of its content. `None` is an object that tells nothing, and
-- each word says that old and new tell, or that neither does.
use Rattle.std.specs.Prelude.{◌≡◌, ℕ, ◌+◌, ◌<◌, ◌≤◌, min, List, [], ◌++◌, length, take, IfSome, Option}
use Rattle.std.specs.Option.{option_map}

-- what the object had is the bytes, and then what it has now
abbrev pub Gives : Option (List ℕ) → List ℕ → Option (List ℕ) → Type 0
Gives old bytes new = old ≡ option_map (λ rest. bytes ++ rest) new

-- what was written, and then the bytes
abbrev pub grown : Option (List ℕ) → List ℕ → Option (List ℕ)
grown old bytes = option_map (λ front. front ++ bytes) old

-- a proper prefix of the piece was written
abbrev pub GrowsByPart : Option (List ℕ) → List ℕ → Option (List ℕ) → Type 0
GrowsByPart old piece new = (n : ℕ) × (n < length piece) × (new ≡ grown old (take n piece))

-- nothing is left, where that is told
abbrev pub IsAtEnd : Option (List ℕ) → Type 0
IsAtEnd left = IfSome left (λ bytes. bytes ≡ [])

-- the count rose, or stands at the last value of a u64
abbrev pub CountRose : ℕ → ℕ → Type 0
CountRose old new = min (old + 1) 18446744073709551615 ≤ new
