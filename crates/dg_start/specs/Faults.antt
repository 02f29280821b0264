-- Why an index is not started from, by why a record was not read, or a set not taken as the current graph.
use Rattle.dg_current.specs.declared.fault.FromFault.{FromFault}
use Rattle.dg_current.specs.declared.fault.FromFault.TheVariants as from_fault
use Rattle.dg_records.specs.declared.fault.RecordFault.{RecordFault}
use Rattle.dg_records.specs.declared.fault.RecordFault.TheVariants as record_fault
use Rattle.dg_start.specs.declared.fault.StartFault.{StartFault}
use Rattle.dg_start.specs.declared.fault.StartFault.TheVariants as fault

-- the same cause
abbrev pub start_fault_of : RecordFault → StartFault
start_fault_of record_fault.Disk = fault.Disk
start_fault_of (record_fault.Damaged key col) = fault.BadRecord key col
start_fault_of record_fault.Memory = fault.Memory

-- the same cause
abbrev pub start_fault_of_set : FromFault → StartFault
start_fault_of_set from_fault.NotGraph = fault.NotGraph
start_fault_of_set from_fault.Memory = fault.Memory
