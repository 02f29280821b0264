-- The names of a new segment as the bytes that they have in its directory.
use Rattle.std.specs.Prelude.{◌≡◌, ℕ, zero, suc, ◌+◌, ◌≤◌, List, [], ◌∷◌, length, take, drop}
use Rattle.std.specs.List.{flat_map, All}
use Rattle.dg_text.specs.declared.limits.TheConstants.{NAME_BYTES_MAX}
use Rattle.dg_index.specs.FileOfHistory.{name_bytes}
use Rattle.dg_index.specs.ImageText.{two_at}

-- so many texts from these bytes, each behind its length
abbrev pub texts_in : ℕ → List ℕ → List (List ℕ)
texts_in zero bytes = []
texts_in (suc count) bytes = take (two_at bytes 0) (drop 2 bytes) ∷ texts_in count (drop (2 + two_at bytes 0) bytes)

-- the bytes are those of so many names, each of them short
pub record AreNewNames (count : ℕ) (bytes : List ℕ) : Type 0 where
  pub count_is : length (texts_in count bytes) ≡ count
  pub bytes_are : flat_map name_bytes (texts_in count bytes) ≡ bytes
  pub short : All (λ text. length text ≤ NAME_BYTES_MAX) (texts_in count bytes)
