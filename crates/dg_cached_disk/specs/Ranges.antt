-- What is kept of a file.
use Rattle.std.specs.Prelude.{◌≡◌, ℕ, List, [], ◌∷◌, length, take, drop}

-- the bytes stand in the image from the offset on
abbrev pub StandsIn : List ℕ → ℕ × List ℕ → Type 0
StandsIn image r = r.1 ≡ take (length r.1) (drop r.0 image)

-- all of the ranges stand in the image
abbrev pub AreRangesOf : List ℕ → List (ℕ × List ℕ) → Type 0
AreRangesOf image [] = Unit {0}
AreRangesOf image (r ∷ ranges) = StandsIn image r × AreRangesOf image ranges

-- the ranges that are kept, and how many may be
pub record Kept : Type 0 where
  pub ranges : List (ℕ × List ℕ)
  pub most : ℕ
