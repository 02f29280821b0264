-- What committing the segment of a batch comes to, or upgrading the file, and why it does not: each as one word over the
-- index, the segment and the disk before and after.
use Rattle.std.specs.Prelude.{◌≡◌, ℕ, ◌≤◌, ◌<◌}
use Rattle.dg_disk.specs.Calls.{FailsToWrite, IsOnDevice}
use Rattle.dg_disk.specs.declared.disk.Disk.{Ghosts}
use Rattle.dg_file.specs.Images.{BothTold, GainsBatch, GainsBatchOrNot, GainsMarker, GainsSegment, GainsUpgrade, GainsUpgradeOrNot}
use Rattle.dg_file.specs.Index.{IndexState}
use Rattle.dg_file.specs.TidyImages.{StaysTidy}
use Rattle.dg_index.specs.FileOfHistory.{Segment}
use Rattle.dg_index.specs.IndexGrowth.{index_upgraded, index_with, needed_for, needed_for_marker}
use Rattle.dg_index.specs.OpenedIndex.{Opening}

-- The segment is in the index and in the file, which has the batch, and all of it is on the device. An image that was
-- just the bytes in use is just those in use now.
pub record CommitsSegment {D : Type 0} (g : Ghosts D) (limit : ℕ) (old : Opening) (segment : Segment) (new : Opening) (before after : D) : Type 0 where
  pub index : new ≡ index_with old segment
  pub opened : BothTold (g.image before) (g.image after) (GainsSegment old segment new)
  pub gained : BothTold (g.image before) (g.image after) (GainsBatch segment)
  pub exact : StaysTidy (g.image before) (g.image after)
  pub fits : needed_for old segment ≤ limit
  pub settled : IsOnDevice g after

-- So many bytes would be in use, more than the limit; and nothing has changed.
pub record IsOverLimit {D : Type 0} (limit : ℕ) (old : IndexState) (segment : Segment) (new : IndexState) (before after : D) (bytes : ℕ) : Type 0 where
  pub needed : bytes ≡ needed_for old.opening segment
  pub over : limit < bytes
  pub index : new ≡ old
  pub disk : after ≡ before

-- The disk failed while the segment, which fits, was written: the file has the old history or the new one.
pub record CommitsPart {D : Type 0} (g : Ghosts D) (limit : ℕ) (old : Opening) (segment : Segment) (before after : D) : Type 0 where
  pub part : BothTold (g.image before) (g.image after) (GainsBatchOrNot segment)
  pub fits : needed_for old segment ≤ limit
  pub cause : FailsToWrite g before after

-- The marker is in the file, which is of the upgraded history, and all of it is on the device. An image that was just the
-- bytes in use is just those in use now.
pub record Upgrades {D : Type 0} (g : Ghosts D) (limit : ℕ) (old new : Opening) (before after : D) : Type 0 where
  pub index : new ≡ index_upgraded old
  pub opened : BothTold (g.image before) (g.image after) (GainsMarker old new)
  pub gained : BothTold (g.image before) (g.image after) GainsUpgrade
  pub exact : StaysTidy (g.image before) (g.image after)
  pub fits : needed_for_marker old ≤ limit
  pub settled : IsOnDevice g after

-- So many bytes would be in use with the marker, more than the limit; and nothing has changed.
pub record LacksMarkerRoom {D : Type 0} (limit : ℕ) (old new : IndexState) (before after : D) (bytes : ℕ) : Type 0 where
  pub needed : bytes ≡ needed_for_marker old.opening
  pub over : limit < bytes
  pub index : new ≡ old
  pub disk : after ≡ before

-- The disk failed while the marker, which fits, was written: the file is of the old history or of the upgraded one.
pub record UpgradesPart {D : Type 0} (g : Ghosts D) (limit : ℕ) (old : Opening) (before after : D) : Type 0 where
  pub part : BothTold (g.image before) (g.image after) GainsUpgradeOrNot
  pub fits : needed_for_marker old ≤ limit
  pub cause : FailsToWrite g before after
