-- What was done to a disk, and what it may leave at each moment by then.
use Rattle.std.specs.Prelude.{◌≡◌, ◌⊎◌, ℕ, List, [], ◌∷◌, ◌++◌, length}
use Rattle.dg_disk.specs.Crash.{Torn}
use Rattle.dg_disk.specs.Image.{put_at}

pub data Deed : Type 0 where
  Wrote : (offset : ℕ) → (piece : List ℕ) → Deed
  Synced : Deed

-- a disk at one moment
pub record Moment : Type 0 where
  pub image : List ℕ  -- the bytes as they read
  pub synced : List ℕ  -- the bytes at the last sync
  pub ranges : List (ℕ × ℕ)  -- the offset and length of each write since, the first of them first

-- all of these bytes are on the device
abbrev pub settled : List ℕ → Moment
settled bytes = record { image = bytes; synced = bytes; ranges = [] }

abbrev pub after : Deed → Moment → Moment
after (Wrote offset piece) m = record { image = put_at offset piece m.image; synced = m.synced; ranges = m.ranges ++ (offset, length piece) ∷ [] }
after Synced m = settled m.image

-- the moment after these deeds, the first of them first
abbrev pub after_all : List Deed → Moment → Moment
after_all [] m = m
after_all (deed ∷ deeds) m = after_all deeds (after deed m)

-- these bytes, after each of the writes was torn in turn
abbrev pub TornBy : List (ℕ × ℕ) → List ℕ → List ℕ → Type 0
TornBy [] bytes c = c ≡ bytes
TornBy (range ∷ ranges) bytes c = (d : List ℕ) × Torn range.0 range.1 bytes d × TornBy ranges d c

-- A crash leaves the bytes as they read, or those at the last sync with each write since then torn.
abbrev pub Leaves : Moment → List ℕ → Type 0
Leaves m c = (c ≡ m.image) ⊎ TornBy m.ranges m.synced c
