-- How far bytes go along with some texts.
use Rattle.std.specs.Prelude.{◌≡◌, ℕ, ◌<◌, ◌≤◌, List, ◌∷◌, ◌++◌, length, take}

-- the bytes are a prefix of one of these
abbrev pub IsPrefixOfOne : (List ℕ → Type 0) → List ℕ → Type 0
IsPrefixOfOne P bytes = (rest : List ℕ) × P (bytes ++ rest)

-- The length of the longest prefix of the bytes that is a prefix of one of these, or 0 where none is.
pub record IsLongestPrefix (P : List ℕ → Type 0) (bytes : List ℕ) (n : ℕ) : Type 0 where
  pub within : n ≤ length bytes
  pub begins : 0 < n → IsPrefixOfOne P (take n bytes)
  pub longest : (a b : List ℕ) → a ++ b ≡ bytes → IsPrefixOfOne P a → length a ≤ n

-- a word, and behind a space what goes on
pub record Parted (W L : List ℕ → Type 0) (line : List ℕ) : Type 0 where
  pub word : List ℕ
  pub after : List ℕ
  pub parts : line ≡ word ++ 32 ∷ after
  pub taken : W word
  pub goes_on : L after
