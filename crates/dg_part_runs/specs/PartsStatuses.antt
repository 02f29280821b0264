-- The exit status of each end of a run over parts.
use Rattle.std.specs.Prelude.{ℕ, Bool, true, false}
use Rattle.dg_part_runs.specs.declared.status.PartsStatus.{PartsStatus}
use Rattle.dg_part_runs.specs.declared.status.PartsStatus.TheVariants as status
use Rattle.dg_session.specs.declared.session_fault.SessionFault.{SessionFault}
use Rattle.dg_session.specs.declared.session_fault.SessionFault.TheVariants.{Start, Unsound}
use Rattle.dg_start.specs.declared.fault.StartFault.TheVariants as fault
use Rattle.dg_turns.specs.declared.end.End.{End}
use Rattle.dg_turns.specs.declared.end.End.TheVariants as end

-- the exit status
abbrev pub parts_code : PartsStatus → ℕ
parts_code status.Done = 0
parts_code status.SourceFault = 3
parts_code status.SinkFault = 4
parts_code status.DiskFault = 5
parts_code status.NoMemory = 6
parts_code (status.Refused part fault) = 7
parts_code status.ScriptLimit = 9
parts_code (status.NoIndex part) = 10
parts_code (status.Mismatch part) = 11

-- the parts began, and the run ended at the end of the script, at a failure or at the limit
abbrev pub is_run : PartsStatus → Bool
is_run status.Done = true
is_run status.SourceFault = true
is_run status.SinkFault = true
is_run status.DiskFault = false
is_run status.NoMemory = false
is_run (status.Refused part fault) = false
is_run status.ScriptLimit = true
is_run (status.NoIndex part) = false
is_run (status.Mismatch part) = false

-- how a run ends whose part of this number does not begin: a failure of the disk and want of memory have ends of their own
abbrev pub ending_at : ℕ → SessionFault → PartsStatus
ending_at part (Start fault.Disk) = status.DiskFault
ending_at part (Start fault.Foreign) = status.Refused part (Start fault.Foreign)
ending_at part (Start (fault.Damaged offset)) = status.Refused part (Start (fault.Damaged offset))
ending_at part (Start (fault.BadRecord key col)) = status.Refused part (Start (fault.BadRecord key col))
ending_at part (Start fault.NotGraph) = status.Refused part (Start fault.NotGraph)
ending_at part (Start (fault.BadRecent number)) = status.Refused part (Start (fault.BadRecent number))
ending_at part (Start fault.Memory) = status.NoMemory
ending_at part (Unsound key col) = status.Refused part (Unsound key col)

-- how a run over parts ends that ends so; no disk of a part is written to
abbrev pub status_of : End → PartsStatus
status_of end.Done = status.Done
status_of end.SourceFault = status.SourceFault
status_of end.SinkFault = status.SinkFault
status_of end.ScriptLimit = status.ScriptLimit
status_of end.Broken = status.DiskFault
