-- Why verifying goes no further, by why a record was not read.
use Rattle.dg_file.specs.declared.fault.FetchFault.{FetchFault}
use Rattle.dg_file.specs.declared.fault.FetchFault.TheVariants as fetch_fault
use Rattle.dg_records.specs.declared.fault.RecordFault.{RecordFault}
use Rattle.dg_records.specs.declared.fault.RecordFault.TheVariants as record_fault
use Rattle.dg_verify.specs.declared.stop.Stop.{Stop}
use Rattle.dg_verify.specs.declared.stop.Stop.TheVariants as stop

-- the same cause
abbrev pub stop_of_fetch : FetchFault → Stop
stop_of_fetch fetch_fault.Disk = stop.Disk
stop_of_fetch fetch_fault.Memory = stop.Memory

-- the same cause
abbrev pub stop_of_record : RecordFault → Stop
stop_of_record (record_fault.Damaged key col) = stop.Wrong key col
stop_of_record record_fault.Disk = stop.Disk
stop_of_record record_fault.Memory = stop.Memory
