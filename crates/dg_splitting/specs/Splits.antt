-- What a split comes to.
use Rattle.std.specs.Prelude.{◌≡◌, ◌⊎◌, ℕ, ◌<◌, true, false, List, Some, IfSome, length, slice_get}
use Rattle.dg_columns.specs.ColumnLaws.{AreBytes}
use Rattle.dg_disk.specs.Calls.{Fails}
use Rattle.dg_disk.specs.declared.disk.Disk.{Ghosts}
use Rattle.dg_file.specs.Images.{BothTold}
use Rattle.dg_history.specs.History.{History}
use Rattle.dg_index.specs.ImageOfHistory.{IsImageOf, is_blank}
use Rattle.dg_part_files.specs.PartFaults.{IsFullAt}
use Rattle.dg_partition.specs.HistoryParts.{part_of}
use Rattle.dg_session.specs.declared.session_fault.SessionFault.{SessionFault}
use Rattle.dg_session.specs.declared.session_fault.SessionFault.TheVariants.{Start, Unsound}
use Rattle.dg_session.specs.SessionStart.{IsStanding, RefusesSession}
use Rattle.dg_splitting.specs.declared.status.SplitStatus.{SplitStatus}
use Rattle.dg_splitting.specs.declared.status.SplitStatus.TheVariants as status
use Rattle.dg_splitting.specs.Ends.{IsLeft, StandsWithin}
use Rattle.dg_splitting.specs.Outs.{AreAsked, AreBlank, AreOnDevice, EachOut, EachPair, IsFirstTaken, OneFails, OneIsUntold}
use Rattle.dg_start.specs.declared.fault.StartFault.TheVariants as fault

-- ---- what is written

-- each out stands for its part of the history, where it tells its image, and has room for it
abbrev pub AreParts : {D : Type 0} → Ghosts D → ℕ → History → List D → Type 0
AreParts g limit z outs = EachOut (λ number out. IfSome (g.image out) (StandsWithin limit (part_of z number (length outs)))) outs

-- the disk has an index, where it tells its image
abbrev pub HasIndex : {D : Type 0} → Ghosts D → D → Type 0
HasIndex g disk = IfSome (g.image disk) (λ image. is_blank image ≡ false)

-- All outs were blank, and over an image that stands for a history each is its part of it now, on the device.
pub record IsDone {D : Type 0} (g : Ghosts D) (limit : ℕ) (disk : D) (outs left : List D) : Type 0 where
  pub index : HasIndex g disk
  pub blank : AreBlank g outs
  pub parts : IfSome (g.image disk) (λ image. (z : History) → IsImageOf z image → AreParts g limit z left)
  pub settled : AreOnDevice g left

-- ---- why not all is written

-- why a checked start refuses the image: neither the disk nor want of memory
abbrev pub RefusesStart : SessionFault → List ℕ → Type 0
RefusesStart (Start fault.Disk) image = ⊥
RefusesStart (Start fault.Foreign) image = RefusesSession true (Start fault.Foreign) image
RefusesStart (Start (fault.Damaged offset)) image = RefusesSession true (Start (fault.Damaged offset)) image
RefusesStart (Start (fault.BadRecord key col)) image = RefusesSession true (Start (fault.BadRecord key col)) image
RefusesStart (Start fault.NotGraph) image = RefusesSession true (Start fault.NotGraph) image
RefusesStart (Start (fault.BadRecent number)) image = RefusesSession true (Start (fault.BadRecent number)) image
RefusesStart (Start fault.Memory) image = ⊥
RefusesStart (Unsound key col) image = RefusesSession true (Unsound key col) image

-- an image of bytes is refused behind the start: it stands for a history, all outs were blank, and one does not tell its image
pub record RefusesOut {D : Type 0} (g : Ghosts D) (image : List ℕ) (outs : List D) : Type 0 where
  pub history : (z : History) × IsImageOf z image
  pub blank : AreBlank g outs
  pub untold : OneIsUntold g outs

-- The image is refused by the start, and the outs are as they were; or it is refused behind the start. An image that stands
-- for a history or for none is refused for an out alone that does not tell its image.
pub record Refuses {D : Type 0} (g : Ghosts D) (why : SessionFault) (image : List ℕ) (outs left : List D) : Type 0 where
  pub when : (RefusesStart why image × (left ≡ outs)) ⊎ (AreBytes image → RefusesOut g image outs)
  pub never : IsStanding image → OneIsUntold g outs

-- the out of this number is the first that is not blank, and all were only asked
pub record FindsIndex {D : Type 0} (g : Ghosts D) (number : ℕ) (disk : D) (outs left : List D) : Type 0 where
  pub index : HasIndex g disk
  pub first : IsFirstTaken g outs number
  pub asked : AreAsked g outs left

-- the disk has no index, and the outs are as they were
pub record FindsNone {D : Type 0} (g : Ghosts D) (disk : D) (outs left : List D) : Type 0 where
  pub blank : IfSome (g.image disk) (λ image. is_blank image ≡ true)
  pub same : left ≡ outs

-- All outs were blank, and with its next batch the out of this number needs so many bytes, more than the limit.
pub record IsFull {D : Type 0} (g : Ghosts D) (limit number needed : ℕ) (disk : D) (outs left : List D) : Type 0 where
  pub index : HasIndex g disk
  pub blank : AreBlank g outs
  pub within : number < length outs
  pub more : limit < needed
  pub full : IfSome (g.image disk) (λ image. (z : History) → IsImageOf z image → (out : D) → slice_get left number ≡ Some out
      → IfSome (g.image out) (IsFullAt limit (part_of z number (length outs)) needed))

-- ---- all of a split

-- what each end says
abbrev pub EndsAs : {D : Type 0} → Ghosts D → ℕ → SplitStatus → D → D → List D → List D → Type 0
EndsAs g limit status.Done old new outs left = IsDone g limit old outs left
EndsAs g limit status.DiskFault old new outs left = Fails g old new ⊎ OneFails g outs left
EndsAs g limit status.NoMemory old new outs left = Unit {0}
EndsAs g limit (status.Refused why) old new outs left = IfSome (g.image old) (λ image. Refuses g why image outs left)
EndsAs g limit (status.Exists number) old new outs left = FindsIndex g number old outs left
EndsAs g limit status.NoIndex old new outs left = FindsNone g old outs left
EndsAs g limit (status.Full number needed) old new outs left = IsFull g limit number needed old outs left

-- what is left of the outs that were blank
abbrev pub LeavesFronts : {D : Type 0} → Ghosts D → History → SplitStatus → List D → List D → Type 0
LeavesFronts g z s outs left =
    (broken : ℕ) × EachPair (λ number old new. BothTold (g.image old) (g.image new)
    (λ before after. is_blank before ≡ true → IsLeft (part_of z number (length outs)) s broken number before after)) outs left

-- What a split has come to that ended so.
pub record Splits {D : Type 0} (g : Ghosts D) (limit : ℕ) (s : SplitStatus) (old new : D) (outs left : List D) : Type 0 where
  -- what its end says: each part stands in its out; or why not all is written
  pub ends : EndsAs g limit s old new outs left
  -- all outs were blank, or nothing was written
  pub untouched : AreBlank g outs ⊎ AreAsked g outs left
  -- over an image that stands for a history, each out that was blank is blank or has the first batches of its part
  pub fronts : IfSome (g.image old) (λ image. (z : History) → IsImageOf z image → LeavesFronts g z s outs left)
