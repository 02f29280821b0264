-- How a session begins, checked or not, or why none does.
use Rattle.std.specs.Prelude.{◌≡◌, ◌⊎◌, ℕ, Bool, true, List, [], Option, Result, Ok, Err}
use Rattle.dg_graph.specs.declared.element.Column.{Column}
use Rattle.dg_history.specs.declared.node.Key.{Key}
use Rattle.dg_history.specs.History.{History}
use Rattle.dg_index.specs.ImageOfHistory.{StandsAs}
use Rattle.dg_index.specs.OpenedIndex.{Opened, opening}
use Rattle.dg_machine.specs.declared.limits.Limits.{Limits}
use Rattle.dg_session.specs.Parts.{Parts}
use Rattle.dg_session.specs.declared.session_fault.SessionFault.{SessionFault}
use Rattle.dg_session.specs.declared.session_fault.SessionFault.TheVariants as fault
use Rattle.dg_sound.specs.declared.soundness.Soundness.TheVariants.{Sound, Unsound}
use Rattle.dg_sound.specs.Soundness.{soundness_of}
use Rattle.dg_start.specs.declared.fault.StartFault.TheVariants as start_fault
use Rattle.dg_start.specs.SessionStart.{RefusesStart, Started, Starts}
use Rattle.dg_verify.specs.declared.fault.VerifyFault.{VerifyFault}
use Rattle.dg_verify.specs.declared.fault.VerifyFault.TheVariants as verify_fault

-- the session has no handle and no index of values yet
pub record IsNew (limits : Limits) (session : Parts) : Type 0 where
  pub limits_are : session.limits ≡ limits
  pub table : session.table ≡ []
  pub graphs : session.graphs ≡ []
  pub next : session.next ≡ limits.first_handle
  pub indexes : session.indexes ≡ []

-- ---- soundness

-- where the image is an index, it is exactly what its own events determine
abbrev pub IsSoundImage : List ℕ → Type 0
IsSoundImage image = (x : Opened) → opening image ≡ Ok x → (n : ℕ) × (soundness_of image x ≡ Sound n)

-- the image is an index, and this record is its first, in the order of keys, and this the first column of it, that is
-- not what its own events determine
abbrev pub IsUnsoundImage : List ℕ → Key → Column → Type 0
IsUnsoundImage image key col = (x : Opened) × (opening image ≡ Ok x) × (soundness_of image x ≡ Unsound key col)

-- the image stands for a history, or for no index
abbrev pub IsStanding : List ℕ → Type 0
IsStanding image = (index : Option History) × StandsAs index image

-- ---- what an image comes to

-- What an image comes to as the beginning of a session, checked or not: what it starts with, and with a check only if
-- it is sound; why it does not start; or what is not sound in an image that starts.
abbrev pub Begins : Bool → List ℕ → Result (Option Started) SessionFault → Type 0
Begins checked image (Ok s) = Starts image (Ok s) × (checked ≡ true → IsSoundImage image)
Begins checked image (Err (fault.Start f)) = Starts image (Err f)
Begins checked image (Err (fault.Unsound key col)) = (s : Option Started) × Starts image (Ok s) × (checked ≡ true) × IsUnsoundImage image key col

-- The fault is why no session begins. Of a failure of the disk and of want of memory nothing is said.
abbrev pub RefusesSession : Bool → SessionFault → List ℕ → Type 0
RefusesSession checked (fault.Start f) image = RefusesStart f image
RefusesSession checked (fault.Unsound key col) image = Begins checked image (Err (fault.Unsound key col))

-- an image comes to one beginning, and not to two, for each answer to whether it is checked
abbrev pub BeginsAreDetermined : Type 0
BeginsAreDetermined =
    (checked : Bool) (image : List ℕ) (a b : Result (Option Started) SessionFault) → Begins checked image a → Begins checked image b → a ≡ b

-- ---- the check

-- why the file was not verified, as why no session begins
abbrev pub fault_of_verify : VerifyFault → SessionFault
fault_of_verify verify_fault.Disk = fault.Start start_fault.Disk
fault_of_verify verify_fault.Memory = fault.Start start_fault.Memory

-- what a check fails for: the disk, want of memory, or what is not sound in the image
abbrev pub FailsCheck : SessionFault → List ℕ → Type 0
FailsCheck (fault.Start f) image = (f ≡ start_fault.Disk) ⊎ (f ≡ start_fault.Memory)
FailsCheck (fault.Unsound key col) image = IsUnsoundImage image key col
