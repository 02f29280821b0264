-- Why a command is not carried out, by the fault of a lower call.
use Rattle.dg_file.specs.declared.fault.CreateFault.{CreateFault}
use Rattle.dg_file.specs.declared.fault.CreateFault.TheVariants as create_fault
use Rattle.dg_machine.specs.declared.reply.Refusal.TheVariants as refusal
use Rattle.dg_records.specs.declared.fault.RecordFault.{RecordFault}
use Rattle.dg_records.specs.declared.fault.RecordFault.TheVariants as retrieval_fault
use Rattle.dg_append.specs.declared.fault.BatchFault.{BatchFault}
use Rattle.dg_append.specs.declared.fault.BatchFault.TheVariants as batch_fault
use Rattle.dg_batch.specs.declared.halt.Halt.{Halt}
use Rattle.dg_batch.specs.declared.halt.Halt.TheVariants as halt
use Rattle.dg_batch.specs.declared.stop.Stop.TheVariants as stop

abbrev pub creation_halt : CreateFault → Halt
creation_halt create_fault.Memory = halt.Refusal refusal.OutOfMemory
creation_halt create_fault.Disk = halt.Stop stop.Store

abbrev pub batch_halt : BatchFault → Halt
batch_halt (batch_fault.BadChange line reason) = halt.Refusal (refusal.BadChange line reason)
batch_halt batch_fault.OldFormat = halt.Refusal refusal.OldFormat
batch_halt (batch_fault.FileFull needed limit) = halt.Refusal (refusal.FileFull needed limit)
batch_halt (batch_fault.Damaged key column) = halt.Refusal (refusal.Damaged key column)
batch_halt batch_fault.Read = halt.Refusal refusal.StoreRead
batch_halt batch_fault.Memory = halt.Refusal refusal.OutOfMemory
batch_halt batch_fault.Store = halt.Stop stop.Store

abbrev pub retrieval_halt : RecordFault → Halt
retrieval_halt retrieval_fault.Disk = halt.Refusal refusal.StoreRead
retrieval_halt (retrieval_fault.Damaged key column) = halt.Refusal (refusal.Damaged key column)
retrieval_halt retrieval_fault.Memory = halt.Refusal refusal.OutOfMemory
