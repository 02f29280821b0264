-- What is owed for a script: the texts of a run of the machine, and an index file that stands for the
-- history that the run came to.
use Rattle.std.specs.Prelude.{◌≡◌, ◌+◌, ◌≤◌, ◌⊎◌, ℕ, Bool, true, List, [], ◌∷◌, ◌++◌, None, Some, IfSome, Option, length, take}
use Rattle.std.specs.List.{list_any}
use Rattle.std.specs.Option.{option_map}
use Rattle.dg_cuts.specs.WholeEntries.{whole_entries}
use Rattle.dg_disk.specs.Counts.{raised_by}
use Rattle.dg_index.specs.ImageOfHistory.{StandsAs}
use Rattle.dg_io.specs.Told.{Gives, IsAtEnd, grown, GrowsByPart}
use Rattle.dg_machine.specs.Answer.{Answered}
use Rattle.dg_machine.specs.CutImage.{IsCut}
use Rattle.dg_machine.specs.MachineState.{MachineState}
use Rattle.dg_machine.specs.Run.{Run, failed_reads, last_state, texts_of}
use Rattle.dg_machine.specs.Script.{Entry, script}
use Rattle.dg_session.specs.Crashes.{IsFirstByte, is_created}
use Rattle.dg_run.specs.declared.status.Status.{Status}
use Rattle.dg_run.specs.declared.status.Status.TheVariants as status
use Rattle.dg_run.specs.Outside.{Outside, IsUntouched}

-- the source tells what it has left, and there is no entry in it
abbrev pub HasNoEntry : Option (List ℕ) → Type 0
HasNoEntry left = option_map script left ≡ Some []

-- what the sink gained: the bytes that are due, or where it failed a proper prefix of them
abbrev pub Gained : Status → Option (List ℕ) → List ℕ → Option (List ℕ) → Type 0
Gained status.Done before due after = after ≡ grown before due
Gained status.Words before due after = after ≡ grown before due
Gained status.SourceFault before due after = after ≡ grown before due
Gained status.SinkFault before due after = GrowsByPart before due after
Gained status.DiskFault before due after = after ≡ grown before due
Gained status.NoMemory before due after = after ≡ grown before due
Gained (status.Refused fault) before due after = after ≡ grown before due
Gained status.ScriptLimit before due after = after ≡ grown before due

-- how many failed calls of the disk the status tells of
abbrev pub faults_of : Status → ℕ
faults_of status.Done = 0
faults_of status.Words = 0
faults_of status.SourceFault = 0
faults_of status.SinkFault = 0
faults_of status.DiskFault = 1
faults_of status.NoMemory = 0
faults_of (status.Refused fault) = 0
faults_of status.ScriptLimit = 0

-- What is left in the image, where a run ended in the state m with these entries still to come: it stands for the index
-- of m, and where the disk failed, it did so before the run began; or the disk failed later, and the first of these
-- entries was cut off over an image that stood for the index of m, and that was the image at the start where there is no
-- index yet.
pub data Remains (s : Status) (m : MachineState) (more : Option (List Entry)) (start now : Outside) (image : List ℕ) : Type 0 where
  Kept : StandsAs m.index image → (s ≡ status.DiskFault → IsUntouched start now) → Remains s m more start now image
  Cut_off : (e : Entry) (rest : List Entry) (before : List ℕ) → s ≡ status.DiskFault → IfSome more (λ entries. entries ≡ e ∷ rest)
      → StandsAs m.index before → (m.index ≡ None → start.image ≡ Some before) → IsCut m e before image → Remains s m more start now image

-- the bytes stand for the index of one of the states of the run from m with these answers
abbrev pub StandsInRun : MachineState → List Answered → List ℕ → Type 0
StandsInRun m answers c = (k : ℕ) × (k ≤ length answers) × StandsAs (last_state m (take k answers)).index c

-- an index was made
abbrev pub makes_index : Answered → Bool
makes_index a = is_created a.reply

-- What a crash within the run with these answers may leave of an index file that had these bytes first: one that stands for
-- the index of a state of the run; or, where it had just the bytes of a header, there was no index, and one was made, the
-- same with any first byte; or what the run itself may leave, where the disk failed within a command.
abbrev pub LeftInRun : Status → MachineState → List Answered → Option (List Entry) → Outside → Outside → List ℕ → List ℕ → Type 0
LeftInRun s m answers more start now first c =
    StandsInRun m answers c
    ⊎ ((list_any makes_index answers ≡ true) × (m.index ≡ None) × IsFirstByte first c)
    ⊎ Remains s (last_state m answers) more start now c

-- these are all entries that stand whole, with their line feeds, in the bytes that were taken of the script
abbrev pub AreWhole : List Entry → Option (List ℕ) → Option (List ℕ) → Type 0
AreWhole entries left then_left = (taken : List ℕ) × Gives left taken then_left × (entries ≡ whole_entries taken)

-- these are the first of them; or the script was taken to its end
abbrev pub AreTaken : List Entry → Option (List ℕ) → Option (List ℕ) → Type 0
AreTaken entries left then_left =
    (taken : List ℕ) × Gives left taken then_left × (((rest : List Entry) × (whole_entries taken ≡ entries ++ rest)) ⊎ IsAtEnd then_left)

-- What was taken of the script: the entries that were answered; and where its source failed, or the limit was reached, all
-- that stand whole in it, and no other.
pub record TakenFrom (s : Status) (entries : List Entry) (left then_left : Option (List ℕ)) : Type 0 where
  pub taken : AreTaken entries left then_left
  pub cut : (s ≡ status.SourceFault) ⊎ (s ≡ status.ScriptLimit) → AreWhole entries left then_left

-- What the sink gained is the texts of the replies of a run of the machine from m over the first
-- entries of the script; with `Done` over all of them. The index file keeps what the run came to. As many calls of the
-- disk failed as replies say that a read of it did, and one more with `DiskFault`. `crashes P`
-- says that a crash at any moment of the run leaves an index file that has P of the one at the start, where that one was on
-- the device.
pub record Served (m : MachineState) (s : Status) (start now : Outside) (crashes : (List ℕ → List ℕ → Type 0) → Type 0) : Type 0 where
  pub entries : List Entry
  pub answers : List Answered
  pub run : Run m entries answers
  pub more : Option (List Entry)
  pub front : option_map script start.left ≡ option_map (λ rest. entries ++ rest) more
  pub whole : s ≡ status.Done → IfSome more (λ rest. rest ≡ [])
  pub gained : Gained s start.written (texts_of answers) now.written
  pub stands : IfSome now.image (λ image. Remains s (last_state m answers) more start now image)
  pub failed : raised_by (failed_reads answers + faults_of s) start.disk_faults ≤ now.disk_faults
  -- The entries were taken of the script, and where it was cut they are all that stand whole in what was taken.
  pub takes : TakenFrom s entries start.left now.left
  -- A crash at any moment of the run leaves an index file that stands for the history of one of its states. There are two
  -- exceptions: the first byte of a file in which an index was made, and what a command leaves within which the disk failed.
  pub crash : crashes (LeftInRun s m answers more start now)
