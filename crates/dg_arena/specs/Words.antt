-- Words of which none stands in memory until one is used.
use Rattle.std.specs.Prelude.{ℕ, ◌<◌, Bool, true, false, List, length, Option, Some, None, IsSome, slice_index_or}

-- the word of a place; each is 0 until they are used
abbrev pub word_of : Bool → Option ℕ → ℕ
word_of false o = 0
word_of true None = 0
word_of true (Some w) = w

-- each place has a word
abbrev pub AreFilled : List (Option ℕ) → Type 0
AreFilled places = (n : ℕ) → n < length places → IsSome (slice_index_or places n None)
