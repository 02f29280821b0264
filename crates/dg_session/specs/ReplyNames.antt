-- Names stay where they are.
use Rattle.std.specs.Prelude.{◌≡◌, List, ℕ, length, take}

-- the names begin with those that there were: none of these is gone or has another number
abbrev pub BeginWith : List (List ℕ) → List (List ℕ) → Type 0
BeginWith before names = take (length before) names ≡ before
