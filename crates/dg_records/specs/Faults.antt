-- Why a record was not read, by why its bytes were not.
use Rattle.dg_file.specs.declared.fault.FetchFault.{FetchFault}
use Rattle.dg_file.specs.declared.fault.FetchFault.TheVariants as fetch_fault
use Rattle.dg_records.specs.declared.fault.RecordFault.{RecordFault}
use Rattle.dg_records.specs.declared.fault.RecordFault.TheVariants as fault

-- the same cause
abbrev pub of_fetch : FetchFault → RecordFault
of_fetch fetch_fault.Disk = fault.Disk
of_fetch fetch_fault.Memory = fault.Memory
