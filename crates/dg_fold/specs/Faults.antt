-- Why a record was not read, by why its part was not composed.
use Rattle.dg_fold.specs.declared.fault.FoldFault.{FoldFault}
use Rattle.dg_fold.specs.declared.fault.FoldFault.TheVariants as fold_fault
use Rattle.dg_records.specs.declared.fault.RecordFault.{RecordFault}
use Rattle.dg_records.specs.declared.fault.RecordFault.TheVariants as fault

-- the same cause
abbrev pub of_fold : FoldFault → RecordFault
of_fold (fold_fault.Damaged key col) = fault.Damaged key col
of_fold fold_fault.Memory = fault.Memory
