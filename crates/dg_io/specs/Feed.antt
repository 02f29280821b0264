-- Where the bytes have a line feed.
use Rattle.std.specs.Prelude.{◌≡◌, ℕ, ◌<◌, Bool, false, ◌==◌, List, length, take, slice_index, MatchOption, Option}
use Rattle.std.specs.List.{list_any, after_first}

abbrev pub is_feed : ℕ → Bool
is_feed b = b == 10

abbrev pub has_feed : List ℕ → Bool
has_feed bytes = list_any is_feed bytes

-- what comes after the first line feed, or nothing where there is none
abbrev pub past_feed : List ℕ → List ℕ
past_feed bytes = after_first is_feed bytes

-- the first line feed of the bytes stands at the index
pub record IsFirstFeed (bytes : List ℕ) (index : ℕ) : Type 0 where
  pub within : index < length bytes
  pub here : slice_index bytes index ≡ 10
  pub before : has_feed (take index bytes) ≡ false

-- the index of the first line feed, or none where there is none
abbrev pub FindsFeed : List ℕ → Option ℕ → Type 0
FindsFeed bytes found = MatchOption found (has_feed bytes ≡ false) (λ index. IsFirstFeed bytes index)
