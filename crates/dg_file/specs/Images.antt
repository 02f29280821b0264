-- What the calls of an index say of the disk's image before and after them.
use Rattle.std.specs.Prelude.{◌≡◌, ◌⊎◌, ℕ, true, List, ◌++◌, Option, Result, Ok, Err, IfSome, length, drop, if◌then◌else◌, ◌==◌}
use Rattle.dg_disk.specs.Counts.{raised_by}
use Rattle.dg_history.specs.declared.form.Form.{Form}
use Rattle.dg_history.specs.declared.form.Form.TheVariants as form
use Rattle.dg_history.specs.declared.params.Params.{Params}
use Rattle.dg_history.specs.History.{History, Batch, empty_history, events_of, with_batch, with_upgrade}
use Rattle.dg_history.specs.LegalHistory.{IsLegal}
use Rattle.dg_index.specs.ImageOfHistory.{is_blank, IsImageOf}
use Rattle.dg_index.specs.OpenedIndex.{Unopened, No_index, Not_ours, Damaged_at, may_be_named, Opening, Opened, opening}
use Rattle.dg_index.specs.FileOfHistory.{Segment, segment_of}
use Rattle.dg_file.specs.declared.fault.ReopenFault.{ReopenFault}
use Rattle.dg_file.specs.declared.fault.ReopenFault.TheVariants as fault

-- the fact of the bytes before and after, where the disk tells both
abbrev pub BothTold : Option (List ℕ) → Option (List ℕ) → (List ℕ → List ℕ → Type 0) → Type 0
BothTold old new P = IfSome old (λ before. IfSome new (λ after. P before after))

-- What a failure may leave of a blank image in which an index was to be made: no index, the new index,
-- or an image of 18 bytes of which at most the first has changed.
abbrev pub IsMadeInPart : Form → Params → List ℕ → List ℕ → Type 0
IsMadeInPart form params old new =
    (is_blank new ≡ true) ⊎ IsImageOf (empty_history form params) new
    ⊎ ((length old ≡ 18) × (length new ≡ 18) × (drop 1 new ≡ drop 1 old))

-- the fault says why the image is not opened; of a failure and of want of memory nothing is said
abbrev pub RefusesOpening : ReopenFault → Result Opened Unopened → Type 0
RefusesOpening fault.Blank due = due ≡ Err No_index
RefusesOpening fault.Foreign due = due ≡ Err Not_ours
RefusesOpening (fault.Damaged offset) due = due ≡ Err (Damaged_at offset)
RefusesOpening fault.Disk due = Unit {0}
RefusesOpening fault.Memory due = Unit {0}

-- the image is opened as this index, with some names
abbrev pub IsOpenedAs : List ℕ → Opening → Type 0
IsOpenedAs image o = (names : List (List ℕ)) × (opening image ≡ Ok (record { index = o; names = names }))

-- the image is opened as this index, with some names which those of the new segment may follow
abbrev pub Fits : List ℕ → Opening → Segment → Type 0
Fits image o s =
    (names : List (List ℕ)) × (opening image ≡ Ok (record { index = o; names = names })) × (may_be_named names s.names ≡ true)

-- Where an image was opened as the old index with some names, it is opened as the new index, with those
-- names and then the names of the segment.
abbrev pub GainsSegment : Opening → Segment → Opening → List ℕ → List ℕ → Type 0
GainsSegment old s new before after =
    (names : List (List ℕ)) → opening before ≡ Ok (record { index = old; names = names }) → opening after ≡ Ok (record { index = new; names = names ++ s.names })

-- of each history and each batch that the segment is of: the image of that history becomes one of it
-- with the batch
abbrev pub GainsBatch : Segment → List ℕ → List ℕ → Type 0
GainsBatch s before after =
    (z : History) (b : Batch) → IsImageOf z before → IsLegal (with_batch z b) → s ≡ segment_of z.params (events_of z) b → IsImageOf (with_batch z b) after

-- or it stays one of it
abbrev pub GainsBatchOrNot : Segment → List ℕ → List ℕ → Type 0
GainsBatchOrNot s before after =
    (z : History) (b : Batch) → IsImageOf z before → IsLegal (with_batch z b) → s ≡ segment_of z.params (events_of z) b → IsImageOf z after ⊎ IsImageOf (with_batch z b) after

-- Where an image was opened as the old index with some names, it is opened as the upgraded one, with those names.
abbrev pub GainsMarker : Opening → Opening → List ℕ → List ℕ → Type 0
GainsMarker old new before after =
    (names : List (List ℕ)) → opening before ≡ Ok (record { index = old; names = names }) → opening after ≡ Ok (record { index = new; names = names })

-- of each history of the first form: its image becomes one of it upgraded, or stays one of it
abbrev pub GainsUpgrade : List ℕ → List ℕ → Type 0
GainsUpgrade before after = (z : History) → IsImageOf z before → z.form ≡ form.One → IsImageOf (with_upgrade z) after

abbrev pub GainsUpgradeOrNot : List ℕ → List ℕ → Type 0
GainsUpgradeOrNot before after = (z : History) → IsImageOf z before → z.form ≡ form.One → IsImageOf z after ⊎ IsImageOf (with_upgrade z) after

-- The count of bytes read, after a read of n more. Where n is 0 nothing is read.
abbrev pub taken_after : ℕ → ℕ → ℕ
taken_after n count = if n == 0 then count else raised_by n count
