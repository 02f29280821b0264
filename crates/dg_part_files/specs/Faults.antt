-- Why a part was not written, by why its index was not made or a batch not added.
use Rattle.dg_append.specs.declared.fault.BatchFault.{BatchFault}
use Rattle.dg_append.specs.declared.fault.BatchFault.TheVariants as batch_fault
use Rattle.dg_file.specs.declared.fault.CreateFault.{CreateFault}
use Rattle.dg_file.specs.declared.fault.CreateFault.TheVariants as create_fault
use Rattle.dg_part_files.specs.declared.fault.PartFault.{PartFault}
use Rattle.dg_part_files.specs.declared.fault.PartFault.TheVariants as fault

-- the same cause
abbrev pub of_creation : CreateFault → PartFault
of_creation create_fault.Disk = fault.Disk
of_creation create_fault.Memory = fault.Memory

-- no change of the batch was refused
abbrev pub IsNoRefusal : BatchFault → Type 0
IsNoRefusal (batch_fault.BadChange line reason) = ⊥
IsNoRefusal batch_fault.OldFormat = ⊥
IsNoRefusal (batch_fault.FileFull needed most) = Unit {0}
IsNoRefusal (batch_fault.Damaged key col) = Unit {0}
IsNoRefusal batch_fault.Read = Unit {0}
IsNoRefusal batch_fault.Memory = Unit {0}
IsNoRefusal batch_fault.Store = Unit {0}

-- The same cause, where no change was refused: what a refused one would be told as does not matter.
abbrev pub of_batch : BatchFault → PartFault
of_batch (batch_fault.BadChange line reason) = fault.Memory
of_batch batch_fault.OldFormat = fault.Memory
of_batch (batch_fault.FileFull needed most) = fault.Full needed
of_batch (batch_fault.Damaged key col) = fault.Damaged key col
of_batch batch_fault.Read = fault.Disk
of_batch batch_fault.Memory = fault.Memory
of_batch batch_fault.Store = fault.Disk
