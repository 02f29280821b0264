-- What an index over a disk holds, and a segment that is ready to be added to it.
use Rattle.std.specs.Prelude.{◌≡◌, ◌≤◌, ℕ, ◌-◌, Bool, List, length}
use Rattle.dg_history.specs.History.{is_wide}
use Rattle.dg_history.specs.declared.node.Key.{Key}
use Rattle.dg_index.specs.FileOfHistory.{Segment}
use Rattle.dg_index.specs.IndexGrowth.{columns_in}
use Rattle.dg_index.specs.OpenedIndex.{Opening, keys_next}

-- what its image is opened as, and how many records and how many batches it may get without taking memory
pub record IndexState : Type 0 where
  pub opening : Opening
  pub spare : ℕ
  pub room : ℕ

-- a segment that is ready to be written in the second form or in the first, and the keys of its records
pub record Prepared : Type 0 where
  pub segment : Segment
  pub wide : Bool
  pub keys : List Key

-- the index has room for the segment, and the keys are those of its records behind the index
pub record HasSegmentRoom (x : IndexState) (p : Prepared) : Type 0 where
  pub keys : p.keys ≡ keys_next x.opening p.segment.events
  pub spare : length p.keys ≤ x.spare
  pub room : 1 ≤ x.room
  pub form : p.wide ≡ is_wide x.opening.form

-- the bytes that an opening reads: all that are in use but the columns
abbrev pub opening_bytes : Opening → ℕ
opening_bytes o = o.used - columns_in o.records
