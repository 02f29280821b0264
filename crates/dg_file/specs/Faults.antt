-- How a failed read of a range stands among the faults of an opening.
use Rattle.dg_file.specs.declared.fault.FetchFault.{FetchFault}
use Rattle.dg_file.specs.declared.fault.FetchFault.TheVariants as fetch_fault
use Rattle.dg_file.specs.declared.fault.ReopenFault.{ReopenFault}
use Rattle.dg_file.specs.declared.fault.ReopenFault.TheVariants as reopen_fault

-- the same cause
abbrev pub reopen_fault_of : FetchFault → ReopenFault
reopen_fault_of fetch_fault.Disk = reopen_fault.Disk
reopen_fault_of fetch_fault.Memory = reopen_fault.Memory
