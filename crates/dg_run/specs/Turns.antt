-- What is done at an entry of the script: to the session and its image, and in reply. And what the run comes to.
use Rattle.std.specs.Prelude.{◌≡◌, ◌≢◌, ℕ, ◌<◌, List, IfSome, Option, Some, is_some, length}
use Rattle.dg_disk.specs.Counts.{Rose as DiskRose}
use Rattle.dg_file.specs.TidyImages.{StaysTidy}
use Rattle.dg_io.specs.Told.{Gives, CountRose}
use Rattle.dg_machine.specs.declared.reply.Reply.{Reply}
use Rattle.dg_machine.specs.CutImage.{IsCut}
use Rattle.dg_machine.specs.MachineState.{MachineState}
use Rattle.dg_machine.specs.Run.{Step}
use Rattle.dg_machine.specs.Script as script
use Rattle.dg_session.specs.Parts.{Parts}
use Rattle.dg_session.specs.Reads.{Reads, ReadsToWrite}
use Rattle.dg_session.specs.Session.{LeavesAnswered, StandsFor}
use Rattle.dg_run.specs.declared.status.Status.{Status}
use Rattle.dg_run.specs.declared.status.Status.TheVariants as status
use Rattle.dg_run.specs.GainedReplies.{GainsReplies}
use Rattle.dg_run.specs.Outside.{Outside}
use Rattle.dg_run.specs.RunWeights.{ReadsNoMore}
use Rattle.dg_run.specs.Served.{HasNoEntry, Served}
use Rattle.dg_run.specs.Statuses.{IsBegun}

-- from every state that the session stands for over its image, the machine may give the entry this
-- reply, and the session then stands for the new state over the image then
abbrev pub Replies : script.Entry → Parts → List ℕ → Parts → List ℕ → Reply → Type 0
Replies e old image new now reply =
    (m : MachineState) → StandsFor old image m → (k : MachineState) × Step m e reply k × StandsFor new now k

-- what a crash within the turn at the entry may leave, where it has this reply: a line that asks for nothing leaves the image
abbrev pub LeavesTurn : script.Entry → Parts → Reply → List ℕ → List ℕ → Type 0
LeavesTurn (script.Asked c lines) old reply = LeavesAnswered c lines old reply
LeavesTurn (script.No_command line) old reply = λ before left. left ≡ before
LeavesTurn script.Long_line old reply = λ before left. left ≡ before

-- the bytes read at the entry, where it has this reply: a line that asks for nothing reads nothing
abbrev pub ReadsTurn : script.Entry → Parts → Option (List ℕ) → Reply → ℕ → ℕ → Type 0
ReadsTurn (script.Asked c lines) old image reply taken then_taken = Reads c old image reply taken then_taken
ReadsTurn (script.No_command line) old image reply taken then_taken = then_taken ≡ taken
ReadsTurn script.Long_line old image reply taken then_taken = then_taken ≡ taken

-- from every state that the session stands for over its image, the bytes are those of a cut within the entry
abbrev pub CutsEntry : script.Entry → Parts → List ℕ → List ℕ → Type 0
CutsEntry e old image now = (m : MachineState) → StandsFor old image m → IsCut m e image now

-- the bytes read at the entry, within which the disk failed
abbrev pub ReadsBroken : script.Entry → Parts → Option (List ℕ) → ℕ → ℕ → Type 0
ReadsBroken (script.Asked c lines) old image taken then_taken = ReadsToWrite c old image taken then_taken
ReadsBroken (script.No_command line) old image taken then_taken = ⊥
ReadsBroken script.Long_line old image taken then_taken = ⊥

-- What the run from a started session comes to: how it ended, and what it leaves of source, sink and disk.
pub record ScriptAnswered (limit : ℕ) (session : Parts) (s : Status) (start now : Outside) (crashes : (List ℕ → List ℕ → Type 0) → Type 0) : Type 0 where
  pub served : (image : List ℕ) (m : MachineState) → start.image ≡ Some image → StandsFor session image m → (x : Served m s start now crashes) × ReadsNoMore (λ n. n ≡ 0) x
  pub replies : GainsReplies s session.names start.written now.written
  pub told : is_some now.image ≡ is_some start.image
  pub exact : s ≢ status.DiskFault → StaysTidy start.image now.image
  pub begun : IsBegun s
  pub done : s ≡ status.Done → IfSome start.left (λ script. length script < limit)
  pub source_fault : s ≡ status.SourceFault → CountRose start.source_faults now.source_faults
  pub sink_fault : s ≡ status.SinkFault → CountRose start.sink_faults now.sink_faults
  pub disk_fault : s ≡ status.DiskFault → DiskRose start.write_faults now.write_faults
  pub script_limit : s ≡ status.ScriptLimit → (taken : List ℕ) × Gives start.left taken now.left × (length taken ≡ limit)
  pub silent : s ≡ status.Done → HasNoEntry start.left → now.bytes_read ≡ start.bytes_read
