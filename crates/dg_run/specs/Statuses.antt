-- The exit status of each end of a run, how a run ends whose session does not begin, and how one that ends with its script.
use Rattle.std.specs.Prelude.{ℕ, Bool, true, false}
use Rattle.dg_session.specs.declared.session_fault.SessionFault.{SessionFault}
use Rattle.dg_session.specs.declared.session_fault.SessionFault.TheVariants.{Start, Unsound}
use Rattle.dg_start.specs.declared.fault.StartFault.TheVariants as fault
use Rattle.dg_run.specs.declared.status.Status.{Status}
use Rattle.dg_run.specs.declared.status.Status.TheVariants as status
use Rattle.dg_turns.specs.declared.end.End.{End}
use Rattle.dg_turns.specs.declared.end.End.TheVariants as end

-- the exit status
abbrev pub code_of : Status → ℕ
code_of status.Done = 0
code_of status.Words = 2
code_of status.SourceFault = 3
code_of status.SinkFault = 4
code_of status.DiskFault = 5
code_of status.NoMemory = 6
code_of (status.Refused fault) = 7
code_of status.ScriptLimit = 9

-- a failure of the disk and want of memory have ends of their own
abbrev pub ending_of : SessionFault → Status
ending_of (Start fault.Disk) = status.DiskFault
ending_of (Start fault.Foreign) = status.Refused (Start fault.Foreign)
ending_of (Start (fault.Damaged offset)) = status.Refused (Start (fault.Damaged offset))
ending_of (Start (fault.BadRecord key col)) = status.Refused (Start (fault.BadRecord key col))
ending_of (Start fault.NotGraph) = status.Refused (Start fault.NotGraph)
ending_of (Start (fault.BadRecent number)) = status.Refused (Start (fault.BadRecent number))
ending_of (Start fault.Memory) = status.NoMemory
ending_of (Unsound key col) = status.Refused (Unsound key col)

-- the end of the run over the script is that of the run
abbrev pub status_of : End → Status
status_of end.Done = status.Done
status_of end.SourceFault = status.SourceFault
status_of end.SinkFault = status.SinkFault
status_of end.ScriptLimit = status.ScriptLimit
status_of end.Broken = status.DiskFault

-- the run ended before anything was read or written, and not by a failure of the disk
abbrev pub is_unbegun : Status → Bool
is_unbegun status.Done = false
is_unbegun status.Words = true
is_unbegun status.SourceFault = false
is_unbegun status.SinkFault = false
is_unbegun status.DiskFault = false
is_unbegun status.NoMemory = true
is_unbegun (status.Refused fault) = true
is_unbegun status.ScriptLimit = false

-- the session began, and the run ended at the end of the script, at a failure or at the limit
abbrev pub IsBegun : Status → Type 0
IsBegun status.Done = Unit {0}
IsBegun status.Words = ⊥
IsBegun status.SourceFault = Unit {0}
IsBegun status.SinkFault = Unit {0}
IsBegun status.DiskFault = Unit {0}
IsBegun status.NoMemory = ⊥
IsBegun (status.Refused fault) = ⊥
IsBegun status.ScriptLimit = Unit {0}
