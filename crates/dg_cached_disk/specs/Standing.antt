-- Whether what is kept in memory is what a disk has.
use Rattle.std.specs.Prelude.{ℕ, Bool, true, ◌&&◌, List, [], ◌∷◌, length, take, drop, bytes_eq, Option, Some, None}

-- each range stands in the image
abbrev pub all_stand : List ℕ → List (ℕ × List ℕ) → Bool
all_stand image [] = true
all_stand image (r ∷ ranges) = bytes_eq r.1 (take (length r.1) (drop r.0 image)) && all_stand image ranges

-- each range stands in the image, where it is told
abbrev pub stand : Option (List ℕ) → List (ℕ × List ℕ) → Bool
stand None ranges = true
stand (Some image) ranges = all_stand image ranges
