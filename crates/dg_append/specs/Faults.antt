-- Why a batch was not added, by why its changes were not completed or its older children not read; and what the disk
-- counted in the call.
use Rattle.std.specs.Prelude.{◌≡◌}
use Rattle.dg_append.specs.declared.fault.BatchFault.{BatchFault}
use Rattle.dg_append.specs.declared.fault.BatchFault.TheVariants as fault
use Rattle.dg_disk.specs.Calls.{Fails, FailsToWrite}
use Rattle.dg_disk.specs.declared.disk.Disk.{Ghosts}
use Rattle.dg_current.specs.declared.fault.PrepareFault.{PrepareFault}
use Rattle.dg_current.specs.declared.fault.PrepareFault.TheVariants as prepare_fault
use Rattle.dg_records.specs.declared.fault.RecordFault.{RecordFault}
use Rattle.dg_records.specs.declared.fault.RecordFault.TheVariants as retrieval_fault

-- the same cause
abbrev pub of_prepare : PrepareFault → BatchFault
of_prepare (prepare_fault.BadChange line reason) = fault.BadChange line reason
of_prepare prepare_fault.Memory = fault.Memory

-- the same cause
abbrev pub of_retrieval : RecordFault → BatchFault
of_retrieval retrieval_fault.Disk = fault.Read
of_retrieval (retrieval_fault.Damaged key col) = fault.Damaged key col
of_retrieval retrieval_fault.Memory = fault.Memory

-- a read failed, and no write and no sync
abbrev pub OnlyReadFailed : {D : Type 0} → Ghosts D → D → D → Type 0
OnlyReadFailed disk old new = Fails disk old new × (disk.write_faults new ≡ disk.write_faults old)

-- what the disk counted in the call: where a write or sync failed, that it did; where a read failed, that nothing else did
abbrev pub HasCause : {D : Type 0} → Ghosts D → BatchFault → D → D → Type 0
HasCause disk (fault.BadChange line reason) old new = Unit {0}
HasCause disk fault.OldFormat old new = Unit {0}
HasCause disk (fault.FileFull needed most) old new = Unit {0}
HasCause disk (fault.Damaged key col) old new = Unit {0}
HasCause disk fault.Read old new = OnlyReadFailed disk old new
HasCause disk fault.Memory old new = Unit {0}
HasCause disk fault.Store old new = FailsToWrite disk old new
