-- The laws of sound files.
use Rattle.std.specs.Prelude.{◌≡◌, ℕ, List, Some, Ok, length}
use Rattle.dg_columns.specs.ColumnLaws.{AreBytes}
use Rattle.dg_history.specs.History.{History, events_of}
use Rattle.dg_index.specs.ImageOfHistory.{IsImageOf}
use Rattle.dg_index.specs.OpenedIndex.{Opened, opened_of, opening}
use Rattle.dg_sound.specs.declared.soundness.Soundness.TheVariants.{Sound}
use Rattle.dg_sound.specs.OwnEvents.{own_events}
use Rattle.dg_sound.specs.Soundness.{own_history, record_total, soundness_of}

-- an image of a history is sound, its own events are those of the history, and their history is this one
abbrev pub StandingFilesAreSound : Type 0
StandingFilesAreSound =
    (z : History) (image : List ℕ) → IsImageOf z image
    → (own_history image (opened_of z) ≡ Some z) × (soundness_of image (opened_of z) ≡ Sound (record_total z.params (length (events_of z))))
    × (own_events image (opened_of z) ≡ Ok (events_of z))

-- an image of bytes that is opened and is sound is the image of the history of its own events
abbrev pub SoundFilesStand : Type 0
SoundFilesStand =
    (image : List ℕ) (x : Opened) (n : ℕ) → AreBytes image → opening image ≡ Ok x → soundness_of image x ≡ Sound n
    → (z : History) × (own_history image x ≡ Some z) × IsImageOf z image
