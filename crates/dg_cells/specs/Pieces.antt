-- A list of numbers in pieces.
use Rattle.std.specs.Prelude.{◌≡◌, ℕ, ◌+◌, ◌<◌, ◌≤◌, List, [], length, take, slice_index_or}
use Rattle.std.specs.List.{flat_map}

-- the numbers of all pieces, one piece after the other
abbrev pub strung : List (List ℕ) → List ℕ
strung pieces = flat_map (λ piece. piece) pieces

-- the piece with this index
abbrev pub nth_piece : List (List ℕ) → ℕ → List ℕ
nth_piece pieces n = slice_index_or pieces n []

-- how many numbers stand before the piece
abbrev pub numbers_before : List (List ℕ) → ℕ → ℕ
numbers_before pieces n = length (strung (take n pieces))

-- a piece has a number, and 1,024 at most
pub record IsPiece (piece : List ℕ) : Type 0 where
  pub some : 0 < length piece
  pub most : length piece ≤ 1024

-- the piece is cut in two after 512 numbers
pub record IsHalved (old new : List (List ℕ)) (n : ℕ) : Type 0 where
  pub same : strung new ≡ strung old
  pub more : length new ≡ length old + 1
  pub first : length (nth_piece new n) ≡ 512
  pub second : length (nth_piece new (n + 1)) ≡ 512
  pub before_first : numbers_before new n ≡ numbers_before old n
  pub before_second : numbers_before new (n + 1) ≡ numbers_before old n + 512

-- an index within a piece, or the end, which is past the last piece
pub record IsPosition (pieces : List (List ℕ)) (piece index : ℕ) : Type 0 where
  pub within : piece ≤ length pieces
  pub inside : piece < length pieces → index < length (nth_piece pieces piece)
  pub end : piece ≡ length pieces → index ≡ 0
