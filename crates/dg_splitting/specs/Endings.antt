-- How a split ends: the exit status of each end, and the end that each fault comes to.
use Rattle.std.specs.Prelude.{ℕ}
use Rattle.dg_part_files.specs.declared.fault.PartFault.{PartFault}
use Rattle.dg_part_files.specs.declared.fault.PartFault.TheVariants as part_fault
use Rattle.dg_records.specs.declared.fault.RecordFault.{RecordFault}
use Rattle.dg_records.specs.declared.fault.RecordFault.TheVariants as record_fault
use Rattle.dg_session.specs.declared.session_fault.SessionFault.{SessionFault}
use Rattle.dg_session.specs.declared.session_fault.SessionFault.TheVariants.{Start, Unsound}
use Rattle.dg_splitting.specs.declared.status.SplitStatus.{SplitStatus}
use Rattle.dg_splitting.specs.declared.status.SplitStatus.TheVariants as status
use Rattle.dg_start.specs.declared.fault.StartFault.TheVariants as fault

-- the exit status
abbrev pub code_of : SplitStatus → ℕ
code_of status.Done = 0
code_of status.DiskFault = 5
code_of status.NoMemory = 6
code_of (status.Refused why) = 7
code_of (status.Exists number) = 8
code_of status.NoIndex = 10
code_of (status.Full number needed) = 12

-- No session begins: a failure of the disk and want of memory have ends of their own.
abbrev pub of_start : SessionFault → SplitStatus
of_start (Start fault.Disk) = status.DiskFault
of_start (Start fault.Foreign) = status.Refused (Start fault.Foreign)
of_start (Start (fault.Damaged offset)) = status.Refused (Start (fault.Damaged offset))
of_start (Start (fault.BadRecord key col)) = status.Refused (Start (fault.BadRecord key col))
of_start (Start fault.NotGraph) = status.Refused (Start fault.NotGraph)
of_start (Start (fault.BadRecent number)) = status.Refused (Start (fault.BadRecent number))
of_start (Start fault.Memory) = status.NoMemory
of_start (Unsound key col) = status.Refused (Unsound key col)

-- the events are not read
abbrev pub of_record : RecordFault → SplitStatus
of_record record_fault.Disk = status.DiskFault
of_record (record_fault.Damaged key col) = status.Refused (Start (fault.BadRecord key col))
of_record record_fault.Memory = status.NoMemory

-- the part of this number is not written
abbrev pub of_part : ℕ → PartFault → SplitStatus
of_part number (part_fault.Name name) = status.Refused (Start fault.Foreign)
of_part number (part_fault.Crowded event) = status.Refused (Start (fault.BadRecent event))
of_part number (part_fault.Full needed) = status.Full number needed
of_part number (part_fault.Damaged key col) = status.Refused (Start (fault.BadRecord key col))
of_part number part_fault.Disk = status.DiskFault
of_part number part_fault.Memory = status.NoMemory
