-- The byte that parts the words of a line, and the rest of a line.
use Rattle.std.specs.Prelude.{ℕ, Bool, ◌==◌, List, [], ◌∷◌, Option, Some, None}
use Rattle.std.specs.List.{join_with_byte}

abbrev pub is_space : ℕ → Bool
is_space b = b == 32

-- the rest of a line that has these words left: they with a space between each two
abbrev pub rest_of : List (List ℕ) → Option (List ℕ)
rest_of [] = None
rest_of (word ∷ more) = Some (join_with_byte 32 (word ∷ more))
