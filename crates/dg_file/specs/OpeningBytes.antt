-- How many bytes the opening of an image reads.
use Rattle.std.specs.Prelude.{◌≡◌, ◌≤◌, ℕ, true, List, Ok, length, if◌then◌else◌, ◌==◌}
use Rattle.dg_disk.specs.Counts.{raised_by}
use Rattle.dg_index.specs.ImageOfHistory.{is_blank}
use Rattle.dg_index.specs.OpenedIndex.{Opening, Opened, opening}
use Rattle.dg_file.specs.Index.{opening_bytes}

-- The count of bytes read rose by n or less; each stands at the last value of a u64 once it is there.
abbrev pub TakesUpTo : ℕ → ℕ → ℕ → Type 0
TakesUpTo n before after = raised_by 0 after ≤ raised_by n before

-- the bytes that the test for a blank image reads of one: 18, where it has 18, else none
abbrev pub blank_bytes : List ℕ → ℕ
blank_bytes image = if length image == 18 then 18 else 0

-- No more was read than opening the index of the image reads, and of a blank image no more than the test for one.
pub record TakesUpToOpening (image : List ℕ) (before after : ℕ) : Type 0 where
  pub index : (x : Opened) → opening image ≡ Ok x → TakesUpTo (opening_bytes x.index) before after
  pub blank : is_blank image ≡ true → TakesUpTo (blank_bytes image) before after

-- Once as much was read as opening the index so far reads, no more was read by the end than opening all of it reads.
abbrev pub StaysWithinOpening : List ℕ → Opening → ℕ → ℕ → Type 0
StaysWithinOpening image o now after =
    (x : Opened) (before : ℕ) → opening image ≡ Ok x → now ≡ raised_by (opening_bytes o) before → TakesUpTo (opening_bytes x.index) before after
