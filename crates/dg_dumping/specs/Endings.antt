-- How a dump ends: the exit status of each end, and the end that each fault comes to.
use Rattle.std.specs.Prelude.{ℕ}
use Rattle.dg_dumping.specs.declared.status.DumpFault.TheVariants as fault
use Rattle.dg_dumping.specs.declared.status.DumpStatus.{DumpStatus}
use Rattle.dg_dumping.specs.declared.status.DumpStatus.TheVariants as status
use Rattle.dg_file.specs.declared.fault.ReopenFault.{ReopenFault}
use Rattle.dg_file.specs.declared.fault.ReopenFault.TheVariants as reopen_fault
use Rattle.dg_records.specs.declared.fault.RecordFault.{RecordFault}
use Rattle.dg_records.specs.declared.fault.RecordFault.TheVariants as record_fault
use Rattle.dg_verify.specs.declared.fault.VerifyFault.{VerifyFault}
use Rattle.dg_verify.specs.declared.fault.VerifyFault.TheVariants as verify_fault

-- the exit status
abbrev pub code_of : DumpStatus → ℕ
code_of status.Done = 0
code_of status.SinkFault = 4
code_of status.DiskFault = 5
code_of status.NoMemory = 6
code_of (status.Refused fault) = 7
code_of status.NoIndex = 8

-- the index is not opened
abbrev pub of_open : ReopenFault → DumpStatus
of_open reopen_fault.Blank = status.NoIndex
of_open reopen_fault.Foreign = status.Refused fault.Foreign
of_open (reopen_fault.Damaged offset) = status.Refused (fault.Damaged offset)
of_open reopen_fault.Disk = status.DiskFault
of_open reopen_fault.Memory = status.NoMemory

-- a record is not read
abbrev pub of_record : RecordFault → DumpStatus
of_record record_fault.Disk = status.DiskFault
of_record (record_fault.Damaged key col) = status.Refused (fault.BadRecord key col)
of_record record_fault.Memory = status.NoMemory

-- the file is not verified
abbrev pub of_verify : VerifyFault → DumpStatus
of_verify verify_fault.Disk = status.DiskFault
of_verify verify_fault.Memory = status.NoMemory
