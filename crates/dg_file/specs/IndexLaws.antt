-- The laws of the bytes that a batch needs, and an upgrade, and of images that are just a file, as they are proved.
use Rattle.std.specs.Prelude.{◌≡◌, ℕ, true, List, Option, length}
use Rattle.dg_history.specs.declared.form.Form.TheVariants as form
use Rattle.dg_history.specs.History.{History, Batch, events_of, is_form, with_batch, with_upgrade}
use Rattle.dg_file.specs.TidyImages.{IsJustFile, IsTidy}
use Rattle.dg_index.specs.FileOfHistory.{segment_of, size}
use Rattle.dg_index.specs.ImageOfHistory.{StandsAs}
use Rattle.dg_index.specs.IndexGrowth.{needed_for, needed_for_marker}
use Rattle.dg_index.specs.OpenedIndex.{opened_of}

-- the bytes that a batch needs are those of the file that has it
abbrev pub BatchesAreMeasured : Type 0
BatchesAreMeasured =
    (z : History) (b : Batch) → is_form z.form z.params.function (length z.batches) ≡ true
    → needed_for (opened_of z).index (segment_of z.params (events_of z) b) ≡ size (with_batch z b)

-- the bytes that an upgrade needs are those of the upgraded file
abbrev pub UpgradesAreMeasured : Type 0
UpgradesAreMeasured = (z : History) → z.form ≡ form.One → needed_for_marker (opened_of z).index ≡ size (with_upgrade z)

-- an image that stands for a history, or for none, is just the bytes in use exactly where it is the file of the history and
-- a closed gate
abbrev pub TidyImagesAreFiles : Type 0
TidyImagesAreFiles = (index : Option History) (image : List ℕ) → StandsAs index image → IsTidy image → IsJustFile index image

abbrev pub FilesAreTidy : Type 0
FilesAreTidy = (index : Option History) (image : List ℕ) → StandsAs index image → IsJustFile index image → IsTidy image
