-- Why a part was not written, and what is left of it.
use Rattle.std.specs.Prelude.{◌≡◌, ◌⊎◌, ℕ, suc, ◌-◌, ◌<◌, ◌≤◌, ◌==◌, true, false, List, [], Option, Some, IfSome, filter, length, slice_get, take}
use Rattle.dg_disk.specs.Calls.{Fails}
use Rattle.dg_disk.specs.declared.disk.Disk.{Ghosts}
use Rattle.dg_file.specs.Images.{BothTold, IsMadeInPart}
use Rattle.dg_graph.specs.declared.event.Event.{Event}
use Rattle.dg_history.specs.declared.limits.TheConstants.{BATCH_LINES_MAX}
use Rattle.dg_history.specs.History.{History}
use Rattle.dg_history.specs.LegalHistory.{IsLegal}
use Rattle.dg_index.specs.FileOfHistory.{size}
use Rattle.dg_index.specs.ImageOfHistory.{IsImageOf, is_blank}
use Rattle.dg_part_files.specs.declared.fault.PartFault.{PartFault}
use Rattle.dg_part_files.specs.declared.fault.PartFault.TheVariants as fault
use Rattle.dg_part_files.specs.WrittenParts.{HasRoom, IsFrontOf, front_of}
use Rattle.dg_text.specs.Names.{are_new, is_name}

-- the text of this number may not be a name, and it is the first
pub record IsNoName (names : List (List ℕ)) (number : ℕ) : Type 0 where
  pub text : List ℕ
  pub there : slice_get names number ≡ Some text
  pub barred : is_name text ≡ false
  pub before : are_new [] (take number names) ≡ true

-- why the names were not copied
abbrev pub IsUncopied : List (List ℕ) → PartFault → Type 0
IsUncopied names (fault.Name number) = IsNoName names number
IsUncopied names (fault.Crowded number) = ⊥
IsUncopied names (fault.Full needed) = ⊥
IsUncopied names (fault.Damaged key col) = ⊥
IsUncopied names fault.Disk = ⊥
IsUncopied names fault.Memory = Unit {0}

-- the event of this number, from 1, has as many events of its time before it as a batch may have
pub record IsCrowded (events : List Event) (number : ℕ) : Type 0 where
  pub event : Event
  pub from_one : 1 ≤ number
  pub there : slice_get events (number - 1) ≡ Some event
  pub crowd : BATCH_LINES_MAX ≤ length (filter (λ (e : Event). e.time == event.time) (take (number - 1) events))

-- The image stands for the first batches, which have room, and with the next one the file needs so many bytes.
pub record IsFullAt (limit : ℕ) (z : History) (needed : ℕ) (image : List ℕ) : Type 0 where
  pub count : ℕ
  pub more : count < length z.batches
  pub stands : IsImageOf (front_of z count) image
  pub fits : HasRoom limit (front_of z count)
  pub needed_is : needed ≡ size (front_of z (suc count))

-- Why the next batch of the history, whose events these are, was not written; of a failure of the disk and of want of memory
-- nothing is said.
abbrev pub WhyStopped : ℕ → History → List Event → Option (List ℕ) → PartFault → Type 0
WhyStopped limit z events image (fault.Name number) = ⊥
WhyStopped limit z events image (fault.Crowded number) = IsCrowded events number × (IsLegal z → ⊥)
WhyStopped limit z events image (fault.Full needed) = (limit < needed) × (IsLegal z → IfSome image (IsFullAt limit z needed))
WhyStopped limit z events image (fault.Damaged key col) = IsLegal z → IfSome image (λ _. ⊥)
WhyStopped limit z events image fault.Disk = Unit {0}
WhyStopped limit z events image fault.Memory = Unit {0}

-- Why it was not written, and what is left: where the whole is legal, an image of its first batches.
pub record StopsPart {D : Type 0} (g : Ghosts D) (limit : ℕ) (z : History) (events : List Event) (old new : D) (why : PartFault) : Type 0 where
  pub reason : WhyStopped limit z events (g.image new) why
  pub cause : why ≡ fault.Disk → Fails g old new
  pub front : IsLegal z → IfSome (g.image new) (IsFrontOf z)

-- ---- all of a part

-- why no index was made for the history, and what is left of the disk then
abbrev pub IsUnmade : {D : Type 0} → Ghosts D → History → D → D → PartFault → Type 0
IsUnmade g z old new (fault.Name number) = ⊥
IsUnmade g z old new (fault.Crowded number) = ⊥
IsUnmade g z old new (fault.Full needed) = ⊥
IsUnmade g z old new (fault.Damaged key col) = ⊥
IsUnmade g z old new fault.Disk = Fails g old new × BothTold (g.image old) (g.image new) (IsMadeInPart z.form z.params)
IsUnmade g z old new fault.Memory = new ≡ old

-- why a part was not written: its names were not copied, or its batches not written
abbrev pub StopsWriting : ℕ → History → List (List ℕ) → List Event → Option (List ℕ) → PartFault → Type 0
StopsWriting limit z names events image (fault.Name number) = IsNoName names number
StopsWriting limit z names events image (fault.Crowded number) = WhyStopped limit z events image (fault.Crowded number)
StopsWriting limit z names events image (fault.Full needed) = WhyStopped limit z events image (fault.Full needed)
StopsWriting limit z names events image (fault.Damaged key col) = WhyStopped limit z events image (fault.Damaged key col)
StopsWriting limit z names events image fault.Disk = Unit {0}
StopsWriting limit z names events image fault.Memory = Unit {0}

-- What is left of a disk that had no index: none, or an image of the first batches; or the disk failed while the index was made.
abbrev pub LeavesPart : History → PartFault → List ℕ → List ℕ → Type 0
LeavesPart z why old new = (is_blank new ≡ true) ⊎ IsFrontOf z new ⊎ ((why ≡ fault.Disk) × IsMadeInPart z.form z.params old new)
